-- Patterns that overlap, and those among some that clash with an earlier one.
use Rattle.std.specs.Prelude.{◌≡◌, ℕ, ◌^◌, ◌<◌, true, List, slice_index_or}
use Rattle.std.specs.List.{All}
use Rattle.aa_glob_syntax.specs.Matching.{matches}
use Rattle.aa_glob_syntax.specs.Patterns.{IsPatternAt}
use Rattle.aa_glob_syntax.specs.Reading.{items_of}

-- Two patterns overlap: some text matches both. A text is a list of bytes; a class that negates every byte holds of greater numbers alone, and so
-- of no text.
abbrev pub Overlap : List ℕ → List ℕ → Type 0
Overlap one other = (path : List ℕ) × All (λ b. b < 2 ^ 8) path × (matches (items_of one) path ≡ true) × (matches (items_of other) path ≡ true)

-- A pattern at a place clashes with an earlier one: they overlap, and their classes differ. Each pattern has a class, by its place.
pub record ClashesAmong (patterns : List (List ℕ)) (classes : List ℕ) (place : ℕ) : Type 0 where
  pub before : ℕ
  pub earlier : before < place
  pub one : List ℕ
  pub one_there : IsPatternAt patterns before one
  pub other : List ℕ
  pub other_there : IsPatternAt patterns place other
  pub classes_differ : slice_index_or classes before 0 ≡ slice_index_or classes place 0 → ⊥
  pub overlap : Overlap one other
