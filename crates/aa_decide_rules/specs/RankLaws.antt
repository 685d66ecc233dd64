-- Definitions for the laws on ranks.
use Rattle.std.specs.Prelude.{ℕ, ◌<◌, ◌≢◌, List, length, slice_index}

-- a rank above 0 is at an index, and lower ones are at all other indexes
abbrev pub StandsOut : List ℕ → ℕ → Type 0
StandsOut ranks place =
    (place < length ranks) × (0 < slice_index ranks place)
    × ((other : ℕ) → other < length ranks → other ≢ place → slice_index ranks other < slice_index ranks place)
