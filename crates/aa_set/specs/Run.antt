-- The run of lines: the replies to an input, line by line, by the machine that keeps whole policy sets (docs/guarantees.md).
use Rattle.std.specs.Prelude.{ℕ, Bool, false, List, [], ◌∷◌, length}
use Rattle.std.specs.Prelude.{Option, IfSome, ◌≡◌, ◌≤◌, count_by}
use Rattle.std.specs.List.{flat_map}
use Rattle.std.specs.Io.KnownBytes.{Appends, Consumes}
use Rattle.aa_text_files.specs.Files.{File}
use Rattle.aa_set_commands.specs.Lines.{lines, whole_lines}
use Rattle.aa_set_commands.specs.Streams.{AppendsFront}
use Rattle.aa_set_manager.specs.Manager.{Managed}
use Rattle.aa_set_manager.specs.Outcomes.{line_outcome}
use Rattle.aa_set_manager.specs.declared.reply.Reply.{Reply}
use Rattle.aa_set.specs.Reply.{reply_text, is_refusal, is_acceptance}
use Rattle.aa_set.specs.declared.session.Summary.{Summary}

-- the replies to lines in order, each with its flag
abbrev pub replies_to : List File → Managed → List (List ℕ × Bool) → List Reply
replies_to files managed [] = []
replies_to files managed (line ∷ lines) = let first = line_outcome files managed line.0 line.1 in first.reply ∷ replies_to files first.managed lines

-- the manager after lines in order, each with its flag
abbrev pub after_lines : List File → Managed → List (List ℕ × Bool) → Managed
after_lines files managed [] = managed
after_lines files managed (line ∷ lines) = after_lines files (line_outcome files managed line.0 line.1).managed lines

-- lines with their flags; memory didn't run out at one without a flag
abbrev pub flagged : List (List ℕ) → List Bool → List (List ℕ × Bool)
flagged [] flags = []
flagged (line ∷ lines) [] = (line, false) ∷ flagged lines []
flagged (line ∷ lines) (flag ∷ flags) = (line, flag) ∷ flagged lines flags

-- the replies to an input, from a manager on
abbrev pub replies : List File → Managed → List ℕ → List Bool → List Reply
replies files begin input flags = replies_to files begin (flagged (lines input) flags)

-- what is written for an input: the text of its replies, joined
abbrev pub output : List File → Managed → List ℕ → List Bool → List ℕ
output files begin input flags = flat_map (reply_text files) (replies files begin input flags)

-- a summary counts these replies
pub record SumsUp (summary : Summary) (all : List Reply) : Type 0 where
  pub accepted : summary.accepted ≡ count_by is_acceptance all
  pub refused : summary.refused ≡ count_by is_refusal all

-- An input was answered: for some flags on its lines the output was written, and the summary counts the replies.
pub record IsAnswered (files : List File) (begin : Managed) (before now : Option (List ℕ)) (summary : Summary) (input : List ℕ) : Type 0 where
  pub flags : List Bool
  pub written : Appends before now (output files begin input flags)
  pub summed : SumsUp summary (replies files begin input flags)

-- the input that a reader still had was answered, where its bytes are known
abbrev pub IsLeftAnswered : List File → Managed → (left before now : Option (List ℕ)) → Summary → Type 0
IsLeftAnswered files begin left before now summary = IfSome left (IsAnswered files begin before now summary)

-- what is written for the whole lines of an input, those that a line feed ends: the text of their replies, joined
abbrev pub output_so_far : List File → Managed → List ℕ → List Bool → List ℕ
output_so_far files begin input flags =
    flat_map (reply_text files) (replies_to files begin (flagged (whole_lines input) flags))

-- The whole lines of an input were answered, for some flags on them, and nothing else was written: an unfinished line has no reply.
pub record IsAnsweredSoFar (files : List File) (begin : Managed) (before now : Option (List ℕ)) (input : List ℕ) : Type 0 where
  pub flags : List Bool
  pub written : Appends before now (output_so_far files begin input flags)

-- For some flags on the lines of an input, what was written is a prefix of the output for it.
pub record IsFrontAnswered (files : List File) (begin : Managed) (before now : Option (List ℕ)) (input : List ℕ) : Type 0 where
  pub flags : List Bool
  pub written : AppendsFront before now (output files begin input flags)

-- this holds of the bytes that a reader gave, where its bytes are known
abbrev pub HoldsOfRead : Option (List ℕ) → Option (List ℕ) → (List ℕ → Type 0) → Type 0
HoldsOfRead before now holds = (input : List ℕ) × Consumes before now input × holds input

-- a reader gave so many bytes, where its bytes are known
abbrev pub HasGiven : ℕ → Option (List ℕ) → Option (List ℕ) → Type 0
HasGiven size before now = (input : List ℕ) × Consumes before now input × (size ≤ length input)
