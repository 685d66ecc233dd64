-- What parts say of names that are missing.
use Rattle.std.proofs.Common.{◌≡◌, ℕ, ◌||◌, Bool, true, false, List, [], ◌∷◌, ◌++◌, map, refl, sym, ap, ◌∙◌}
use Rattle.std.specs.List.{list_any}
use Rattle.std.proofs.lemmas.List.Folds.{list_any-append}
use Rattle.aa_text_expansion.specs.Missing.{is_missing}
use Rattle.aa_text_expansion.specs.Parts.{Part, Byte, Name}

-- bytes that stand for themselves are no names
pub bytes-there : (test : List ℕ → Bool) (bytes : List ℕ) → false ≡ list_any (is_missing test) (map Byte bytes)
bytes-there test [] = refl
bytes-there test (b ∷ bs) = bytes-there test bs

-- one name
pub name-missing : (test : List ℕ → Bool) (name : List ℕ) → test name ≡ list_any (is_missing test) (Name name ∷ [])
name-missing test name = by (test name)
  where
    by : (b : Bool) → b ≡ (b || false)
    by true = refl
    by false = refl

-- the parts behind those in which nothing is missing
pub missing-behind : (test : List ℕ → Bool) (part rest ps : List Part) → part ++ rest ≡ ps → list_any (is_missing test) part ≡ false
    → list_any (is_missing test) rest ≡ list_any (is_missing test) ps
missing-behind test part rest ps e none =
    sym (ap (list_any (is_missing test)) (sym e) ∙ list_any-append (is_missing test) part rest ∙ ap (λ b. b || list_any (is_missing test) rest) none)
