-- What is gathered of logs, line by line.
use Rattle.std.specs.Prelude.{ℕ, Bool, if◌then◌else◌, List, Option, fold}
use Rattle.aatry_log_lines.specs.Entries.{Entry}
use Rattle.aatry_log_lines.specs.Lines.{Told}
use Rattle.aatry_log_lines.specs.Selections.{Selection}
use Rattle.aatry_logs.specs.Apart.{KeptLine, LinesApart, apart_with, is_disconnected, is_interpreted, is_learning, is_unreadable, kept_line, none_apart, seen_apart}
use Rattle.aatry_logs.specs.Entries.{asked_for, entry_in_log, passes_over}
use Rattle.aatry_logs.specs.declared.log_requests.LogRequests.{LogRequests as CodeRequests}
use Rattle.aatry_requests.specs.Gathering.{Gathered, seen_requests, with_told_at}
use Rattle.aatry_requests.specs.Gathering as requests
use Rattle.aatry_requests.specs.Tallies.{one_more}

-- The requests of the selected lines; the selected lines that can't be read, and how many of them can't since they are interpreted; those of which
-- the kernel knew no whole path, and those of learning profiles; how many lines that hold something are passed over; and the number of the last
-- line, in its log.
pub record LogRequests : Type 0 where
  pub requests : Gathered
  pub unreadable : LinesApart
  pub interpreted : ℕ
  pub disconnected : LinesApart
  pub learning : LinesApart
  pub passed_over : ℕ
  pub line : ℕ

-- what is gathered, of the code
abbrev pub seen_logs : CodeRequests → LogRequests
seen_logs logs = record {
  requests = seen_requests logs.requests;
  unreadable = seen_apart logs.unreadable;
  interpreted = logs.interpreted;
  disconnected = seen_apart logs.disconnected;
  learning = seen_apart logs.learning;
  passed_over = logs.passed_over;
  line = logs.line;
}

-- nothing so far
abbrev pub nothing : LogRequests
nothing = record {
  requests = requests.nothing;
  unreadable = none_apart;
  interpreted = 0;
  disconnected = none_apart;
  learning = none_apart;
  passed_over = 0;
  line = 0;
}

-- a further log begins
abbrev pub begun : LogRequests → LogRequests
begun so_far = record so_far { line = 0 }

-- one more, if this is one
abbrev pub one_more_if : Bool → ℕ → ℕ
one_more_if is_one count = if is_one then one_more count else count

-- what is gathered, with a line, of which this is kept, among those that make no question, by what it holds
abbrev pub with_apart : LogRequests → KeptLine → Told → LogRequests
with_apart so_far kept told = record so_far {
  unreadable = apart_with (is_unreadable told) so_far.unreadable kept;
  interpreted = one_more_if (is_interpreted told) so_far.interpreted;
  disconnected = apart_with (is_disconnected told) so_far.disconnected kept;
  learning = apart_with (is_learning told) so_far.learning kept;
}

-- what is gathered, with one more line of a log, of which this is kept, and which holds this
abbrev pub with_kept : LogRequests → KeptLine → Entry → LogRequests
with_kept so_far kept entry = record (with_apart so_far kept (asked_for entry)) {
  requests = with_told_at so_far.requests (asked_for entry) entry.time;
  passed_over = one_more_if (passes_over entry) so_far.passed_over;
  line = one_more so_far.line;
}

-- what is gathered, with one more line of a log, which holds this
abbrev pub with_entry : Option (List ℕ) → List ℕ → LogRequests → Entry → LogRequests
with_entry file line so_far entry = with_kept so_far (kept_line file (one_more so_far.line) line) entry

-- one more line of a log
abbrev pub with_line : Selection → Option (List ℕ) → LogRequests → List ℕ → LogRequests
with_line selection file so_far line = with_entry file line so_far (entry_in_log selection line)

-- what some lines of a log add
abbrev pub with_lines : Selection → Option (List ℕ) → LogRequests → List (List ℕ) → LogRequests
with_lines selection file so_far lines = fold (with_line selection file) so_far lines
