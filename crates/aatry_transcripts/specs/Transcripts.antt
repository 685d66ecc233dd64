-- The parts of a transcript: commands, each followed by the lines that are wanted as its reply, and assertions.
use Rattle.std.specs.Prelude.{ℕ, Bool, ◌||◌, not, List, [], ◌∷◌, ◌++◌, codes, drop, flat_map, map, take}
use Rattle.std.specs.Borrow.{Bor}
use Rattle.std.specs.List.{filter, list_all, prefix_len}
use Rattle.std.specs.Str.Lines.{strip_carriage_return}
use Rattle.aa_bytes.specs.Bytes.{hash, line_feed}
use Rattle.aa_bytes.specs.Texts.{begins_with, begins_with_byte}
use Rattle.aa_set_commands.specs.Lines.{lines}
use Rattle.aa_set_commands.specs.Words.{is_command_blank}

-- the lines behind references
abbrev pub texts : List (Bor (List ℕ)) → List (List ℕ)
texts lines = map (λ line. line.now) lines

-- the lines of a transcript, each also without the carriage return by which other systems end a line
abbrev pub transcript_lines : List ℕ → List (List ℕ)
transcript_lines text = map strip_carriage_return (lines text)

-- a line that holds a command
abbrev pub is_command : List ℕ → Bool
is_command line = begins_with (codes "> ") line

-- the command in such a line: what follows the sign and its blank
abbrev pub command_in : List ℕ → List ℕ
command_in line = drop 2 line

-- blanks alone: there is no command, and no reply has such a line
abbrev pub is_blank : List ℕ → Bool
is_blank text = list_all is_command_blank text

-- a line for the reader alone: a comment, or blanks
abbrev pub is_note : List ℕ → Bool
is_note line = begins_with_byte hash line || is_blank line

-- a line that holds an assertion: what the policy set has to satisfy there
abbrev pub is_assertion : List ℕ → Bool
is_assertion line = begins_with (codes "! ") line

-- the assertion in such a line: what follows the sign and its blank
abbrev pub assertion_in : List ℕ → List ℕ
assertion_in line = drop 2 line

-- a line that is part of no reply
abbrev pub is_aside : List ℕ → Bool
is_aside line = is_note line || is_assertion line

-- each other line is wanted as part of a reply
abbrev pub is_wanted : List ℕ → Bool
is_wanted line = not (is_command line || is_aside line)

-- those of these lines that are wanted
abbrev pub wanted_in : List (List ℕ) → List (List ℕ)
wanted_in lines = filter is_wanted lines

-- the lines before the next command
abbrev pub before_command : List (List ℕ) → List (List ℕ)
before_command lines = take (prefix_len (λ line. not (is_command line)) lines) lines

-- a line of the run's input: its command, ended by a line feed
abbrev pub given_line : List ℕ → List ℕ
given_line line = command_in line ++ line_feed ∷ []

-- the run's input: the commands of these lines, each ended by a line feed
abbrev pub input_of : List (List ℕ) → List ℕ
input_of lines = flat_map given_line (filter is_command lines)
