-- What the commands of lines do to the policy set of a session, and to its history.
use Rattle.std.specs.Prelude.{ℕ, Bool, false, ◌&&◌, nat_le, nat_lt, if◌then◌else◌, List, length, Option, None, Some, Result, Ok}
use Rattle.aa_set_commands.specs.Command.{Command, Make, Undo, PolicyChange, Add, Replace, line_command}
use Rattle.aa_set_commands.specs.declared.refusal.Refusal.{Refusal}
use Rattle.aa_set_commands.specs.Limits.{longest_line}
use Rattle.aa_set_commands.specs.Words.{words_of}

-- the change that a command makes, if it is one that changes the policy set
abbrev pub change_in : Result (Option Command) Refusal → Option PolicyChange
change_in (Ok (Some (Make change))) = Some change
change_in _ = None

-- the file whose profiles a change loads, if it loads any
abbrev pub loaded_by : Option PolicyChange → Option (List ℕ)
loaded_by (Some (Add file)) = Some file
loaded_by (Some (Replace file)) = Some file
loaded_by _ = None

-- the file whose profiles the command of a line loads, if it loads any: a line that is too long does nothing
abbrev pub loaded_file : List ℕ → Option (List ℕ)
loaded_file line = if nat_le (length line) longest_line then loaded_by (change_in (line_command (words_of line))) else None

-- how many changes a command undoes, if it is `undo`
abbrev pub undo_count : Result (Option Command) Refusal → Option ℕ
undo_count (Ok (Some (Undo count))) = Some count
undo_count _ = None

-- there is a number, and it is greater than this one
abbrev pub is_above : ℕ → Option ℕ → Bool
is_above most None = false
is_above most (Some count) = nat_lt most count

-- the command of a line undoes more changes than so many: a line that is too long undoes none
abbrev pub undoes_more : ℕ → List ℕ → Bool
undoes_more most line = nat_le (length line) longest_line && is_above most (undo_count (line_command (words_of line)))
