-- Copies of rules that match a path, as the code holds them.
use Rattle.std.specs.Prelude.{◌≡◌, ℕ, zero, suc, true, List, [], ◌∷◌, ◌++◌, length}
use Rattle.std.specs.List.{All}
use Rattle.aa_profile_data.specs.Matching.{is_matching}
use Rattle.aa_explain_redundant.specs.declared.copies.Copies.{Copies}

-- the numbers below a count
abbrev pub places_to : ℕ → List ℕ
places_to zero = []
places_to (suc count) = places_to count ++ count ∷ []

-- the places are those of all the copies
abbrev pub AreCounted : Copies → Type 0
AreCounted copies = copies.places.items ≡ places_to (length copies.rules.items)

-- each copy is of a rule on files whose pattern matches a path
pub record ArePathCopies (path : List ℕ) (copies : Copies) : Type 0 where
  pub matching : All (λ rule. is_matching path rule ≡ true) copies.rules.items
  pub counted : AreCounted copies
