-- The column of a place in its line.
use Rattle.std.specs.Prelude.{◌≡◌, ℕ, ◌+◌, ◌<◌, ◌≤◌, true, List, length, slice_index, take}
use Rattle.aatry_report.specs.Characters.{begins_character, character_count}
use Rattle.aatry_report.specs.Lines.{last_line}

-- the column of a place, from 1: one more than the characters before it in its line
abbrev pub column : List ℕ → ℕ → ℕ
column text at = character_count (last_line (take at text)) + 1

-- a place is where a character begins, or a text's end
abbrev pub IsBeginning : List ℕ → ℕ → Type 0
IsBeginning text at = (at ≤ length text) × (at < length text → begins_character (slice_index text at) ≡ true)
