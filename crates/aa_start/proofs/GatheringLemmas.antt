-- The files that were taken, and the names that are left.
use Rattle.std.proofs.Common.{◌≡◌, ℕ, List, [], ◌∷◌, ◌++◌, append_assoc, ap, sym, ◌∙◌}
use Rattle.std.proofs.lemmas.List.{map-append}
use Rattle.aa_text_files.specs.Files.{File}
use Rattle.aa_start.specs.Gathering.{names_of}

-- one more file stands behind those that were taken, by its name
pub names_of-more : (files after : List File) (name bytes : List ℕ) → after ≡ files ++ (name, bytes) ∷ [] → names_of after ≡ names_of files ++ name ∷ []
names_of-more files after name bytes taken = ap names_of taken ∙ map-append (λ file. file.0) files ((name, bytes) ∷ [])

-- so the names of those that were taken and those that are left are the same together
pub names_left-more : (names : List (List ℕ)) (files after : List File) (name bytes : List ℕ) (left : List (List ℕ)) → after ≡ files ++ (name, bytes) ∷ []
    → names ≡ names_of files ++ name ∷ left → names ≡ names_of after ++ left
names_left-more names files after name bytes left taken stand =
    stand ∙ sym (append_assoc (names_of files) (name ∷ []) left) ∙ ap (λ taken. taken ++ left) (sym (names_of-more files after name bytes taken))
