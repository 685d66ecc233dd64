-- Some patterns, each by its place, and which of them match a path.
use Rattle.std.specs.Prelude.{◌≡◌, ◌↔◌, ℕ, true, Contains, List, Some, slice_get}
use Rattle.aa_glob_syntax.specs.Matching.{matches}
use Rattle.aa_glob_syntax.specs.Reading.{items_of}

-- the pattern at a place of a list
abbrev pub IsPatternAt : List (List ℕ) → ℕ → List ℕ → Type 0
IsPatternAt patterns place pattern = slice_get patterns place ≡ Some pattern

-- these are the places of the patterns that match a path
abbrev pub AreMatching : List (List ℕ) → List ℕ → List ℕ → Type 0
AreMatching patterns path places =
    (place : ℕ)
    → (Contains places place ↔ ((pattern : List ℕ) × IsPatternAt patterns place pattern × (matches (items_of pattern) path ≡ true)))
