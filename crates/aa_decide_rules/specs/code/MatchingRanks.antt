-- Ranks of patterns that match a path.
use Rattle.std.specs.Prelude.{ℕ, ◌+◌, if◌then◌else◌, List, [], ◌∷◌, None, Some, slice_get}
use Rattle.aa_glob_syntax.specs.Exactness.{is_exact, literal_prefix}
use Rattle.aa_glob_syntax.specs.Reading.{items_of}
use Rattle.aa_decide_rules.specs.Ranks.{exact_rank, greater}

-- the rank of a pattern on a path that it matches
abbrev pub matching_rank : List ℕ → ℕ
matching_rank pattern = if is_exact (items_of pattern) then exact_rank else literal_prefix (items_of pattern) + 1

-- the greatest of a rank and the ranks of the patterns at some indexes
abbrev pub best_among : List (List ℕ) → ℕ → List ℕ → ℕ
best_among patterns best [] = best
best_among patterns best (place ∷ places) = elim (slice_get patterns place) [
  | None ↦ best_among patterns best places
  | Some pattern ↦ best_among patterns (greater best (matching_rank pattern)) places
]
