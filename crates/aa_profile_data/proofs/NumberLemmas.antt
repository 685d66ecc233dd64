-- Numbers of names, in tables of any names.
use Rattle.std.proofs.Common.{◌≡◌, ℕ, ◌+◌, ◌<◌, Bool, true, false, List, [], ◌∷◌, length, refl, arith}
use Rattle.std.specs.Prelude.{IfSome}
use Rattle.std.specs.Str.{bytes_eq}
use Rattle.std.proofs.lemmas.Option.{IfSome_then}
use Rattle.aa_profile_data.specs.TableNames.{number_from}

-- the number of a name is that of one of the table's names
pub number-below : (first : ℕ) (names : List (List ℕ)) (name : List ℕ) → IfSome (number_from first names name) (λ number. number < first + length names)
number-below first [] name = tt
number-below first (own ∷ names) name = by (bytes_eq own name) refl (number-below (first + 1) names name)
  where
    by : (same : Bool) → bytes_eq own name ≡ same → IfSome (number_from (first + 1) names name) (λ number. number < (first + 1) + length names)
        → IfSome (number_from first (own ∷ names) name) (λ number. number < first + length (own ∷ names))
    by true e behind = rw (number_from, e) (omega arith)
    by false e behind = rw (number_from, e) (IfSome_then (number_from (first + 1) names name) behind (λ number below. omega arith))
