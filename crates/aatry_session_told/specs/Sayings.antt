-- The meaning of the lines of a session: some are for the session itself, all others for the machine over commands (docs/commands.md).
use Rattle.std.specs.Prelude.{ℕ, ◌&&◌, nat_le, if◌then◌else◌, List, [], ◌∷◌, length, Option, None, Some, Result, Ok, Err, codes}
use Rattle.std.specs.Str.{bytes_eq}
use Rattle.aa_set_commands.specs.Question.{IsWellFormed, Question, seen_question}
use Rattle.aa_set_commands.specs.declared.refusal.Refusal.{Refusal}
use Rattle.aa_set_commands.specs.Limits.{longest_line}
use Rattle.aa_set_commands.specs.Words.{words_of}
use Rattle.aatry_questions.specs.Faults.{Found, question_fault, seen_fault}
use Rattle.aatry_questions.specs.Meant.{meant_fault, question_meant}
use Rattle.aatry_session_told.specs.declared.sayings.Saying.{Saying as CodeSaying}
use Rattle.aatry_session_told.specs.declared.sayings.Saying.TheVariants as said

-- the meaning of a line: a command of the machine; to print the commands or the history, to include the changes of the loading in the history, to
-- end the session, to read the files anew, to print what is loaded and which files differ from the disk's, to print the rules that decide the answer
-- to a question, or to print what is wrong with words that make none
pub data Saying : Type 0 where
  Command : Saying
  Help : Saying
  History : Saying
  Widen : Saying
  Quit : Saying
  Reload : Saying
  Status : Saying
  Why : (question : Question) → Saying
  NoQuestion : (fault : Found) → Saying

-- the meaning of a line, of the code
abbrev pub seen_saying : CodeSaying → Saying
seen_saying said.Command = Command
seen_saying said.Help = Help
seen_saying said.History = History
seen_saying said.Widen = Widen
seen_saying said.Quit = Quit
seen_saying said.Reload = Reload
seen_saying said.Status = Status
seen_saying (said.Why question) = Why (seen_question question)
seen_saying (said.NoQuestion fault) = NoQuestion (seen_fault fault)

-- the question is well-formed
abbrev pub IsAskable : CodeSaying → Type 0
IsAskable (said.Why question) = IsWellFormed question
IsAskable _ = Unit {0}

-- the most words of a question
abbrev pub most_asked : ℕ
most_asked = 5

abbrev pub word_saying : List ℕ → Saying
word_saying word =
    if bytes_eq word (codes "help") then Help else
    if bytes_eq word (codes "history") then History else
    if bytes_eq word (codes "loading") then Widen else
    if bytes_eq word (codes "quit") then Quit else
    if bytes_eq word (codes "reload") then Reload else
    if bytes_eq word (codes "status") then Status else Command

-- the meaning of words after `why`: the question that they mean, or what is wrong with them
abbrev pub asked_saying : Result Question Refusal → Option Found → Saying
asked_saying (Ok question) fault = Why question
asked_saying (Err refusal) (Some fault) = NoQuestion fault
asked_saying (Err refusal) None = Command

abbrev pub why_saying : List (List ℕ) → Saying
why_saying words = asked_saying (question_meant words) (meant_fault words)

-- the meaning of words after `ask`, by what is wrong with them: they are for the machine, unless they are no question
abbrev pub ask_saying : Option Found → Saying
ask_saying None = Command
ask_saying (Some fault) = NoQuestion fault

-- the meaning of a first word and the words after it: more than a question has are for the machine, which refuses them
abbrev pub words_saying : List ℕ → List (List ℕ) → Saying
words_saying first rest =
    if bytes_eq first (codes "why") && nat_le (length rest) most_asked then why_saying rest else
    if bytes_eq first (codes "ask") && nat_le (length rest) most_asked then ask_saying (question_fault rest) else Command

abbrev pub saying_of : List (List ℕ) → Saying
saying_of [] = Command
saying_of (word ∷ []) = word_saying word
saying_of (first ∷ second ∷ rest) = words_saying first (second ∷ rest)

abbrev pub line_saying : Option (List (List ℕ)) → Saying
line_saying None = Command
line_saying (Some words) = saying_of words

-- the meaning of a line: one that is too long is none of the session's
abbrev pub saying_in : List ℕ → Saying
saying_in line = if nat_le (length line) longest_line then line_saying (words_of line) else Command
