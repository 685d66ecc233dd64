-- Where the ways of states begin in the table of ways, for a block of states at a time.
use Rattle.std.specs.Prelude.{ℕ, ◌/◌, ◌<◌, ◌≤◌, nat_lt, if◌then◌else◌, List, length, slice_index_or}
use Rattle.std.specs.List.{AllWithin}
use Rattle.aa_glob_nfa.specs.declared.state.Way.{Way}

-- the block of a state: each has eight
abbrev pub block_of : ℕ → ℕ
block_of q = q / 8

-- the ways of a block's states, and of those of later blocks, begin at a place of the table
pub record Begins (ways : List Way) (block place : ℕ) : Type 0 where
  pub within : place ≤ length ways
  pub before : AllWithin (λ w. block_of w.from < block) ways 0 place
  pub behind : AllWithin (λ w. block ≤ block_of w.from) ways place (length ways)

-- the number of a place that isn't known
abbrev pub unknown : ℕ
unknown = 4294967295

-- these are the places where the ways of the first blocks begin, as far as they are known
abbrev pub AreFirsts : List Way → List ℕ → Type 0
AreFirsts ways firsts = (block d : ℕ) → block < length firsts → slice_index_or firsts block d < unknown → Begins ways block (slice_index_or firsts block d)

-- the known place at an index or, where there is none, another
abbrev pub place_or : List ℕ → ℕ → ℕ → ℕ
place_or places at other = if nat_lt (slice_index_or places at unknown) unknown then slice_index_or places at unknown else other
