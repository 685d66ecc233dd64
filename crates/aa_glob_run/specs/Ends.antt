-- The patterns that end at some states.
use Rattle.std.specs.Prelude.{◌≡◌, ◌↔◌, ℕ, ◌<◌, List, length, Contains, Some, slice_get}
use Rattle.aa_glob_nfa.specs.Graphs.{Graph, EndsAt}

-- the pattern ends at one of the first states of a list
abbrev pub IsEndIn : Graph → ℕ → List ℕ → ℕ → Type 0
IsEndIn g count live p = (k : ℕ) × (q : ℕ) × (k < count) × (slice_get live k ≡ Some q) × EndsAt g q p

-- these are the patterns that end at a state of a list
abbrev pub AreEndsOf : Graph → List ℕ → List ℕ → Type 0
AreEndsOf g live patterns = (p : ℕ) → Contains patterns p ↔ IsEndIn g (length live) live p
