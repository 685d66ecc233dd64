-- What is gathered from a source's lines.
use Rattle.std.specs.Prelude.{ℕ, List, [], Option, None, fold}
use Rattle.aa_set_commands.specs.Lines.{lines}
use Rattle.aatry_log_lines.specs.Lines.{Asks, Disconnected, Interpreted, Learning, NoRequest, OtherRequest, Told, Unreadable}
use Rattle.aatry_requests.specs.Sources.{told_in}
use Rattle.aatry_requests.specs.Tallies.{Tally, counted_with, one_more}
use Rattle.aatry_requests.specs.declared.requests.Requests.{Requests}
use Rattle.aatry_requests.specs.declared.sources.Source.{Source}

-- The questions, each once and with how often it occurred, and how many lines there were; of these, how many make a question, hold a request that
-- none asks, or can't be read.
pub record Gathered : Type 0 where
  pub tallies : List Tally
  pub lines : ℕ
  pub asked : ℕ
  pub others : ℕ
  pub unreadable : ℕ

-- what is gathered, of the code
abbrev pub seen_requests : Requests → Gathered
seen_requests r = record { tallies = r.tallies; lines = r.lines; asked = r.asked; others = r.others; unreadable = r.unreadable }

-- nothing so far
abbrev pub nothing : Gathered
nothing = record { tallies = []; lines = 0; asked = 0; others = 0; unreadable = 0 }

-- one more line
abbrev pub with_line : Gathered → Gathered
with_line so_far = record so_far { lines = one_more so_far.lines }

-- one more that holds a request that no question asks
abbrev pub with_other : Gathered → Gathered
with_other so_far = record (with_line so_far) { others = one_more so_far.others }

-- one more that can't be read
abbrev pub with_unreadable : Gathered → Gathered
with_unreadable so_far = record (with_line so_far) { unreadable = one_more so_far.unreadable }

-- one more line that holds this, at a time, where that is known
abbrev pub with_told_at : Gathered → Told → Option ℕ → Gathered
with_told_at so_far (Asks question) time =
    record (with_line so_far) { tallies = counted_with question time so_far.tallies; asked = one_more so_far.asked }
with_told_at so_far OtherRequest time = with_other so_far
with_told_at so_far Disconnected time = with_other so_far
with_told_at so_far Learning time = with_other so_far
with_told_at so_far NoRequest time = with_line so_far
with_told_at so_far Unreadable time = with_unreadable so_far
with_told_at so_far Interpreted time = with_unreadable so_far

-- one more line that holds this, where no time is looked at
abbrev pub with_told : Gathered → Told → Gathered
with_told so_far told = with_told_at so_far told None

-- what some lines of a source add
abbrev pub with_lines : Source → Gathered → List (List ℕ) → Gathered
with_lines source so_far lines = fold (λ so_far line. with_told so_far (told_in source line)) so_far lines

-- what is gathered from the lines of a text
abbrev pub gathered : Source → List ℕ → Gathered
gathered source text = with_lines source nothing (lines text)
