-- The reply to a line, and the manager after it, by the machine that keeps whole policy sets (docs/commands.md).
use Rattle.std.specs.Prelude.{ℕ, Bool, true, false, ◌&&◌, not, nat_le, if◌then◌else◌, List, length, Option, None, Some, Result, Ok, Err}
use Rattle.aa_text_files.specs.Files.{File}
use Rattle.aa_set_commands.specs.Limits.{longest_line}
use Rattle.aa_set_commands.specs.Words.{words_of}
use Rattle.aa_set_commands.specs.Command.{Command, Make, Undo, Redo, Mark, Back, Ask, Listed, Show, line_command}
use Rattle.aa_set_commands.specs.Refusal.{plain}
use Rattle.aa_set_commands.specs.declared.refusal.Refusal.{Refusal}
use Rattle.aa_set_commands.specs.declared.refusal.RefusalKind.TheVariants.{LineTooLong, Memory}
use Rattle.aa_set_manager.specs.Changes.{change_takes_memory}
use Rattle.aa_set_answers.specs.Answers.{asks_absent, reply_lines, shown, shows_absent}
use Rattle.aa_set_answers.specs.List.{list_lines}
use Rattle.aa_set_manager.specs.Manager.{Managed, back_at, is_mark_name, made, marking, redone, undone}
use Rattle.aa_set_manager.specs.declared.reply.Reply.{Reply}
use Rattle.aa_set_manager.specs.declared.reply.Reply.TheVariants.{Silent, Done, Refused, Answered}

-- the reply to a line, and the manager after it
pub record Outcome : Type 0 where
  pub reply : Reply
  pub managed : Managed

abbrev pub refused : Managed → Refusal → Outcome
refused managed refusal = record { reply = Refused refusal; managed = managed }

abbrev pub changed : Managed → Result Managed Refusal → Outcome
changed managed (Ok after) = record { reply = Done; managed = after }
changed managed (Err refusal) = refused managed refusal

abbrev pub answered : Managed → Result (List ℕ) Refusal → Outcome
answered managed (Ok lines) = record { reply = Answered lines; managed = managed }
answered managed (Err refusal) = refused managed refusal

-- the reply to a command where memory suffices
abbrev pub obeyed : List File → Managed → Command → Outcome
obeyed files managed (Make change) = changed managed (made files managed change)
obeyed files managed (Undo n) = changed managed (undone n managed)
obeyed files managed (Redo n) = changed managed (redone n managed)
obeyed files managed (Mark name) = changed managed (marking name managed)
obeyed files managed (Back name) = changed managed (back_at name managed)
obeyed files managed (Ask question) = answered managed (reply_lines managed.machine.now question)
obeyed files managed Listed = answered managed (Ok (list_lines managed.machine.now))
obeyed files managed (Show name) = answered managed (shown managed.machine.now name)

-- Memory may run out at a command, but not at `undo`, `redo` and `back`, a switch that is refused, a name that no mark can have, a question of a
-- profile, a child or a hat that doesn't exist, and `show` of one.
abbrev pub takes_memory : Managed → Command → Bool
takes_memory managed (Make change) = change_takes_memory managed.machine.now change
takes_memory managed (Undo n) = false
takes_memory managed (Redo n) = false
takes_memory managed (Mark name) = is_mark_name name
takes_memory managed (Back name) = false
takes_memory managed (Ask question) = not (asks_absent managed.machine.now question)
takes_memory managed Listed = true
takes_memory managed (Show name) = not (shows_absent managed.machine.now name)

-- the reply to a command, with the flag that memory ran out at it; for commands that take none the flag says nothing
abbrev pub obeyed_flagged : List File → Managed → Bool → Command → Outcome
obeyed_flagged files managed flag command =
    if flag && takes_memory managed command then refused managed (plain Memory) else obeyed files managed command

-- the reply to the command of a line: nothing where there is none
abbrev pub command_outcome : List File → Managed → Bool → Result (Option Command) Refusal → Outcome
command_outcome files managed flag (Err refusal) = refused managed refusal
command_outcome files managed flag (Ok None) = record { reply = Silent; managed = managed }
command_outcome files managed flag (Ok (Some command)) = obeyed_flagged files managed flag command

-- the command in a line
abbrev pub command_in : List ℕ → Result (Option Command) Refusal
command_in line = line_command (words_of line)

-- the reply to a line
abbrev pub line_outcome : List File → Managed → List ℕ → Bool → Outcome
line_outcome files managed line flag =
    if nat_le (length line) longest_line
    then command_outcome files managed flag (command_in line)
    else refused managed (plain LineTooLong)
