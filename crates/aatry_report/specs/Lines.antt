-- The lines of a text, and the line of a place.
use Rattle.std.specs.Prelude.{ℕ, ◌+◌, Bool, ◌==◌, List, ◌++◌, count_by, drop, take}
use Rattle.std.specs.List.{after_last, before_first, slice_split}
use Rattle.std.specs.Str.Lines.{strip_carriage_return}
use Rattle.aa_bytes.specs.Bytes.{line_feed}

abbrev pub is_line_feed : ℕ → Bool
is_line_feed b = b == line_feed

-- the lines of a text: what is between its line feeds, before the first and after the last
abbrev pub lines_of : List ℕ → List (List ℕ)
lines_of text = slice_split is_line_feed text

-- what is before a text's first line feed: all of it where it has none
abbrev pub first_line : List ℕ → List ℕ
first_line text = before_first is_line_feed text

-- what is after a text's last line feed: all of it where it has none
abbrev pub last_line : List ℕ → List ℕ
last_line text = after_last is_line_feed text

abbrev pub line_feed_count : List ℕ → ℕ
line_feed_count text = count_by is_line_feed text

-- the number of the line of a place, from 1: one more than the line feeds before the place
abbrev pub line_number : List ℕ → ℕ → ℕ
line_number text at = line_feed_count (take at text) + 1

-- the line of a place: its part before the place, and from the place on
abbrev pub whole_line_at : List ℕ → ℕ → List ℕ
whole_line_at text at = last_line (take at text) ++ first_line (drop at text)

-- the line as it is shown: without a carriage return at its end
abbrev pub line_at : List ℕ → ℕ → List ℕ
line_at text at = strip_carriage_return (whole_line_at text at)
