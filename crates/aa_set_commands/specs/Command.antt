-- Commands, and the words that give them (docs/commands.md).
use Rattle.std.specs.Prelude.{ℕ, Bool, ◌&&◌, ◌+◌, ◌-◌, ◌*◌, nat_le, if◌then◌else◌, List, [], ◌∷◌, length}
use Rattle.std.specs.Prelude.{fold, Option, None, Some, Result, Ok, Err, codes}
use Rattle.std.specs.List.{list_all}
use Rattle.std.specs.Result.{result_map_both}
use Rattle.std.specs.Str.{bytes_eq}
use Rattle.aa_bytes.specs.Bytes.{is_digit}
use Rattle.aa_set_commands.specs.Question.{IsWellFormed, Question, question_of, seen_question}
use Rattle.aa_set_commands.specs.declared.command.Command.{Command as CodeCommand}
use Rattle.aa_set_commands.specs.declared.command.Command.TheVariants as command
use Rattle.aa_set_commands.specs.declared.command.PolicyChange.{PolicyChange as CodeChange}
use Rattle.aa_set_commands.specs.declared.command.PolicyChange.TheVariants as made
use Rattle.aa_set_commands.specs.Refusal.{plain}
use Rattle.aa_set_commands.specs.declared.refusal.Refusal.{Refusal}
use Rattle.aa_set_commands.specs.declared.refusal.RefusalKind.TheVariants.{BadCommand}

-- a change of the policy set: by the profiles of a file, or of the profile of a name
pub data PolicyChange : Type 0 where
  Add : (file : List ℕ) → PolicyChange
  Replace : (file : List ℕ) → PolicyChange
  Remove : (file : List ℕ) → PolicyChange
  Enforce : (name : List ℕ) → PolicyChange
  Complain : (name : List ℕ) → PolicyChange
  Disable : (name : List ℕ) → PolicyChange

-- a command: a change; changes to undo or to redo; to mark the policy set by a name, or to go back to the marked one; a question to answer; to list
-- what is loaded; or to show one loaded profile, child or hat
pub data Command : Type 0 where
  Make : (change : PolicyChange) → Command
  Undo : (count : ℕ) → Command
  Redo : (count : ℕ) → Command
  Mark : (name : List ℕ) → Command
  Back : (name : List ℕ) → Command
  Ask : (question : Question) → Command
  Listed : Command
  Show : (name : List ℕ) → Command

-- a change of the code
abbrev pub seen_change : CodeChange → PolicyChange
seen_change (made.Add file) = Add file.now
seen_change (made.Replace file) = Replace file.now
seen_change (made.Remove file) = Remove file.now
seen_change (made.Enforce name) = Enforce name.now
seen_change (made.Complain name) = Complain name.now
seen_change (made.Disable name) = Disable name.now

-- a command of the code
abbrev pub seen_command : CodeCommand → Command
seen_command (command.Change change) = Make (seen_change change)
seen_command (command.Undo count) = Undo count
seen_command (command.Redo count) = Redo count
seen_command (command.Mark name) = Mark name.now
seen_command (command.Back name) = Back name.now
seen_command (command.Ask question) = Ask (seen_question question)
seen_command command.List = Listed
seen_command (command.Show name) = Show name.now

-- the question of a command is well-formed
abbrev pub AsksWell : CodeCommand → Type 0
AsksWell (command.Ask question) = IsWellFormed question
AsksWell _ = Unit {0}

-- a refusal stays as it is
abbrev pub same : Refusal → Refusal
same refusal = refusal

-- the most digits of a number, so few that it can't overflow
abbrev pub most_digits : ℕ
most_digits = 9

-- the number that digits stand for
abbrev pub number_of_digits : List ℕ → ℕ
number_of_digits digits = fold (λ number digit. 10 * number + (digit - 48)) 0 digits

-- the one word that a command takes
abbrev pub the_word : List (List ℕ) → Result (List ℕ) Refusal
the_word (word ∷ []) = Ok word
the_word _ = Err (plain BadCommand)

-- a word is a number of changes: 1 to 9 digits, and at least 1
abbrev pub is_count : List ℕ → Bool
is_count word = nat_le 1 (length word) && nat_le (length word) most_digits && list_all is_digit word && nat_le 1 (number_of_digits word)

-- how many changes to undo or to redo: one, where no word says
abbrev pub count_of : List (List ℕ) → Result ℕ Refusal
count_of [] = Ok 1
count_of (word ∷ []) = if is_count word then Ok (number_of_digits word) else Err (plain BadCommand)
count_of _ = Err (plain BadCommand)

-- the command that takes no word
abbrev pub no_word : List (List ℕ) → Result Command Refusal
no_word [] = Ok Listed
no_word (word ∷ rest) = Err (plain BadCommand)

-- the change that a first word makes with the name after it, if it is a word of a change
abbrev pub change_of : List ℕ → List ℕ → Option PolicyChange
change_of first name =
    if bytes_eq first (codes "add") then Some (Add name) else
    if bytes_eq first (codes "replace") then Some (Replace name) else
    if bytes_eq first (codes "remove") then Some (Remove name) else
    if bytes_eq first (codes "enforce") then Some (Enforce name) else
    if bytes_eq first (codes "complain") then Some (Complain name) else
    if bytes_eq first (codes "disable") then Some (Disable name) else None

-- the command of a change, if there is one; else it is bad
abbrev pub made_of : Option PolicyChange → Result Command Refusal
made_of None = Err (plain BadCommand)
made_of (Some change) = Ok (Make change)

-- the change of a first word and those after it: each takes one name
abbrev pub change_command : List ℕ → List (List ℕ) → Result Command Refusal
change_command first (name ∷ []) = made_of (change_of first name)
change_command first _ = Err (plain BadCommand)

-- the command of a first word and those after it
abbrev pub command_of : List ℕ → List (List ℕ) → Result Command Refusal
command_of first rest =
    if bytes_eq first (codes "undo") then result_map_both Undo same (count_of rest) else
    if bytes_eq first (codes "redo") then result_map_both Redo same (count_of rest) else
    if bytes_eq first (codes "mark") then result_map_both Mark same (the_word rest) else
    if bytes_eq first (codes "back") then result_map_both Back same (the_word rest) else
    if bytes_eq first (codes "ask") then result_map_both Ask same (question_of rest) else
    if bytes_eq first (codes "list") then no_word rest else
    if bytes_eq first (codes "show") then result_map_both Show same (the_word rest) else
    change_command first rest

-- the command of a line's words, if there are any: a line of blanks alone commands nothing
abbrev pub line_command : Option (List (List ℕ)) → Result (Option Command) Refusal
line_command None = Err (plain BadCommand)
line_command (Some []) = Ok None
line_command (Some (first ∷ rest)) = result_map_both Some same (command_of first rest)
