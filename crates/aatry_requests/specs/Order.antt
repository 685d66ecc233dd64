-- The order in which questions are printed that occurred differently often.
use Rattle.std.specs.Prelude.{◌≡◌, ◌<◌, ◌≤◌, ◌+◌, ◌==◌, ℕ, List, filter, length, slice_index_or}
use Rattle.std.specs.List.Sorted.{IsPermutation}
use Rattle.aatry_requests.specs.Tallies.{Tally}

-- those among some that occurred so often
abbrev pub came : ℕ → List Tally → List Tally
came times tallies = filter (λ tally. tally.times == times) tallies

-- The same questions, of which none comes after one that occurred less often; those that occurred equally often keep their order.
pub record IsMostAskedFirst (tallies told : List Tally) : Type 0 where
  pub same : IsPermutation tallies told
  pub falls : (place : ℕ) (other : Tally) → place + 1 < length told → (slice_index_or told (place + 1) other).times ≤ (slice_index_or told place other).times
  pub keeps : (times : ℕ) → came times told ≡ came times tallies
