-- Lines of a log that make no question, by the reason: how many there are, and the first of them.
use Rattle.std.specs.Prelude.{ℕ, Bool, true, false, nat_lt, if◌then◌else◌, List, [], ◌∷◌, ◌++◌, Option, length, map, option_map, string_bytes, take}
use Rattle.aatry_log_lines.specs.Lines.{Asks, Disconnected, Interpreted, Learning, NoRequest, OtherRequest, Told, Unreadable}
use Rattle.aatry_logs.specs.declared.apart.KeptLine.{KeptLine as CodeLine}
use Rattle.aatry_logs.specs.declared.apart.LinesApart.{LinesApart as CodeLines}
use Rattle.aatry_requests.specs.Tallies.{one_more}

-- The path of its log, where that isn't standard input, the line's number in it, from 1, and its first bytes.
pub record KeptLine : Type 0 where
  pub file : Option (List ℕ)
  pub line : ℕ
  pub text : List ℕ

-- how many there are, and the first of them
pub record LinesApart : Type 0 where
  pub count : ℕ
  pub first : List KeptLine

-- the lines of the code
abbrev pub seen_kept : CodeLine → KeptLine
seen_kept line = record { file = option_map string_bytes line.file; line = line.line; text = line.text.items }

abbrev pub seen_lines : List CodeLine → List KeptLine
seen_lines lines = map seen_kept lines

abbrev pub seen_apart : CodeLines → LinesApart
seen_apart lines = record { count = lines.count; first = seen_lines lines.first.items }

-- no lines so far
abbrev pub none_apart : LinesApart
none_apart = record { count = 0; first = [] }

-- how many of these lines are kept, and how many bytes of one
abbrev pub most_kept : ℕ
most_kept = 10

abbrev pub longest_text : ℕ
longest_text = 500

-- what is kept of a line of a log
abbrev pub kept_line : Option (List ℕ) → ℕ → List ℕ → KeptLine
kept_line file number line = record { file = file; line = number; text = take longest_text line }

-- one more line, where fewer were kept
abbrev pub kept_with : List KeptLine → KeptLine → List KeptLine
kept_with lines line = if nat_lt (length lines) most_kept then lines ++ line ∷ [] else lines

-- one more line, if it is one of these
abbrev pub one_apart : LinesApart → KeptLine → LinesApart
one_apart lines line = record { count = one_more lines.count; first = kept_with lines.first line }

abbrev pub apart_with : Bool → LinesApart → KeptLine → LinesApart
apart_with is lines line = if is then one_apart lines line else lines

-- a line can't be read
abbrev pub is_unreadable : Told → Bool
is_unreadable Unreadable = true
is_unreadable Interpreted = true
is_unreadable (Asks question) = false
is_unreadable OtherRequest = false
is_unreadable Disconnected = false
is_unreadable Learning = false
is_unreadable NoRequest = false

-- a line can't be read since its values are interpreted
abbrev pub is_interpreted : Told → Bool
is_interpreted Interpreted = true
is_interpreted (Asks question) = false
is_interpreted OtherRequest = false
is_interpreted Disconnected = false
is_interpreted Learning = false
is_interpreted NoRequest = false
is_interpreted Unreadable = false

-- a line has a request for a file of which the kernel knew no whole path
abbrev pub is_disconnected : Told → Bool
is_disconnected Disconnected = true
is_disconnected (Asks question) = false
is_disconnected OtherRequest = false
is_disconnected Learning = false
is_disconnected NoRequest = false
is_disconnected Unreadable = false
is_disconnected Interpreted = false

-- a line has a request of a learning profile
abbrev pub is_learning : Told → Bool
is_learning Learning = true
is_learning (Asks question) = false
is_learning OtherRequest = false
is_learning Disconnected = false
is_learning NoRequest = false
is_learning Unreadable = false
is_learning Interpreted = false
