-- The one file of some.
use Rattle.std.proofs.Common.{◌≡◌, ℕ, List, [], ◌∷◌, ap, subst}
use Rattle.std.specs.List.{All}
use Rattle.std.proofs.lemmas.List.Elements.{All-head}
use Rattle.aa_text_files.specs.Files.{File}
use Rattle.aa_start.specs.Gathering.{names_of}

-- the one file of some, by its name
pub one_file : (P : File → Type 0) (files : List File) (name : List ℕ) → names_of files ≡ name ∷ [] → All P files → (bytes : List ℕ) × (files ≡ (name, bytes) ∷ []) × P (name, bytes)
one_file P [] name named all = cc
one_file P (file ∷ []) name named all =
    let own : file.0 ≡ name = cc in
    (file.1, ap (λ n. (n, file.1) ∷ []) own, subst (λ n. P (n, file.1)) own (All-head P file [] all))
one_file P (file ∷ next ∷ files) name named all = cc
