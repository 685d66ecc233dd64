-- The turns of a session: the answer to a line, and the session after it.
use Rattle.std.specs.Prelude.{◌≡◌, ◌⊎◌, ℕ, ◌-◌, Bool, if◌then◌else◌, List, [], ◌++◌, length, map, Option, None, Some}
use Rattle.aa_profile_parsing.specs.declared.language.Language.{Language}
use Rattle.aa_set_manager.specs.Outcomes.{Outcome as Obeyed, command_in, line_outcome, obeyed_flagged, refused}
use Rattle.aa_set_manager.specs.Manager.{Managed, new_manager_in}
use Rattle.aa_set_manager.specs.declared.reply.Reply.{Reply}
use Rattle.aa_set_manager.specs.declared.reply.Reply.TheVariants.{Silent, Done, Refused, Answered}
use Rattle.aa_set_commands.specs.Command.{Add, Make, PolicyChange}
use Rattle.aa_set_commands.specs.Question.{Question}
use Rattle.aa_set_commands.specs.Refusal.{plain}
use Rattle.aa_set_commands.specs.declared.refusal.RefusalKind.TheVariants.{NothingToUndo}
use Rattle.aa_text_files.specs.Files.{File}
use Rattle.aatry_policy.specs.declared.origins.Origin.{Origin}
use Rattle.aatry_report.specs.Shown.{shown_lines}
use Rattle.aatry_session_told.specs.Help.{help_text}
use Rattle.aatry_session_told.specs.History.{change_text, history_text, moves_text}
use Rattle.aatry_session_told.specs.Refusals.{no_question_told, refusal_told}
use Rattle.aatry_session_told.specs.Sayings.{Saying, Command, Help, History, NoQuestion, Quit, Reload, Status, Widen, Why, saying_in}
use Rattle.aatry_session.specs.Changes.{kept_with}
use Rattle.aatry_session_told.specs.Commands.{change_in, undoes_more}
use Rattle.aatry_session.specs.Origins.{change_origins, origin_among, unplaced_origin}

-- A session, as contracts see it: the manager, and the texts of its changes, the done ones, oldest first, and then the undone ones, the next to redo
-- first; in the same order where the profiles were read that each change loaded; and how many changes, the first ones, its history leaves out.
pub record Kept : Type 0 where
  pub managed : Managed
  pub texts : List (List ℕ)
  pub origins : List (List Origin)
  pub loaded : ℕ

-- a session that has made no change yet, whose files are read by a language
abbrev pub begun : Language → Bool → Kept
begun language force_complain = record { managed = new_manager_in language force_complain; texts = []; origins = []; loaded = 0 }

-- how many changes of a manager are done
abbrev pub depth : Managed → ℕ
depth managed = length managed.machine.earlier

-- a session whose history begins here: it leaves out the changes that are done
abbrev pub history_begun : Kept → Kept
history_begun kept = record kept { loaded = depth kept.managed }

-- a session whose history leaves out nothing any more
abbrev pub history_widened : Kept → Kept
history_widened kept = record kept { loaded = 0 }

-- the history in words
abbrev pub history_told : Kept → List ℕ
history_told kept = history_text kept.loaded (depth kept.managed) kept.managed.machine.marks kept.texts

-- how many changes can be undone, where the history leaves out so many: those that are done after these
abbrev pub undoable : ℕ → Managed → ℕ
undoable loaded managed = depth managed - loaded

-- The reply to a line where the history leaves out so many changes, and the manager after it: those of the machine; but a line that undoes more than
-- can be undone is refused, as the machine refuses one that undoes more than all.
abbrev pub line_obeyed : List File → ℕ → Managed → List ℕ → Bool → Obeyed
line_obeyed files loaded managed line flag =
    if undoes_more (undoable loaded managed) line then refused managed (plain NothingToUndo) else line_outcome files managed line flag

-- where the loaded profile of a name was read, as far as the session knows: by the last change that is done and loaded one of the name
abbrev pub origin_of : Kept → List ℕ → Option Origin
origin_of kept name = origin_among name (depth kept.managed) kept.origins

-- a session that knows no place any more, since the files were read anew, but of each profile still which file it was read from
abbrev pub unplaced : Kept → Kept
unplaced kept = record kept { origins = map (map unplaced_origin) kept.origins }

-- the text of a reply, where files are read by a language, so many changes were done before it and so many are done after it
abbrev pub reply_told : Language → List File → List ℕ → List (List ℕ) → ℕ → ℕ → Reply → List ℕ
reply_told language files base texts from to Silent = []
reply_told language files base texts from to Done = moves_text from to texts
reply_told language files base texts from to (Answered lines) = shown_lines lines
reply_told language files base texts from to (Refused refusal) = refusal_told language files base refusal

-- the texts after this change, if one is made, by its reply
abbrev pub texts_behind : ℕ → Option PolicyChange → Reply → List (List ℕ) → List (List ℕ)
texts_behind done None reply texts = texts
texts_behind done (Some change) reply texts = kept_with done (change_text change) reply texts

-- where profiles were read by a language, after this change
abbrev pub origins_behind : Language → List File → ℕ → Option PolicyChange → Reply → List (List Origin) → List (List Origin)
origins_behind language files done None reply origins = origins
origins_behind language files done (Some change) reply origins = kept_with done (change_origins language files change) reply origins

-- how many changes are done after a command, as far as its reply shows those that it undid or redid: a change that it makes is none of them
abbrev pub done_behind : Managed → Option PolicyChange → Managed → ℕ
done_behind before None after = depth after
done_behind before (Some change) after = depth before

-- a session after a command for the machine that makes this change, if it makes one, by the machine after it
abbrev pub kept_after : List File → Kept → Option PolicyChange → Obeyed → Kept
kept_after files kept change obeyed = record {
  managed = obeyed.managed;
  texts = texts_behind (depth kept.managed) change obeyed.reply kept.texts;
  origins = origins_behind kept.managed.settings.language files (depth kept.managed) change obeyed.reply kept.origins;
  loaded = kept.loaded;
}

-- the text of the reply
abbrev pub told_of : List File → List ℕ → Kept → Option PolicyChange → Obeyed → List ℕ
told_of files base kept change obeyed =
    reply_told obeyed.managed.settings.language files base (kept_after files kept change obeyed).texts (depth kept.managed)
    (done_behind kept.managed change obeyed.managed) obeyed.reply

-- A command that makes this change, if it makes one, was obeyed, as the machine obeys it with a flag that memory ran out, and the text of the reply
-- was appended.
abbrev pub ObeysAs : List File → List ℕ → (before after : Kept) → Option PolicyChange → (Bool → Obeyed) → (old new : List ℕ) → Type 0
ObeysAs files base before after change obeyed old new =
    (flag : Bool)
    × (after ≡ kept_after files before change (obeyed flag))
    × (new ≡ old ++ told_of files base before change (obeyed flag))

-- A command that makes this change, if it makes one, was obeyed so, or everything is as it was.
abbrev pub LeavesAs : List File → (before after : Kept) → Option PolicyChange → (Bool → Obeyed) → Type 0
LeavesAs files before after change obeyed = (after ≡ before) ⊎ ((flag : Bool) × (after ≡ kept_after files before change (obeyed flag)))

-- A line was obeyed, and the text of the reply was appended.
abbrev pub Obeys : List File → List ℕ → (before after : Kept) → List ℕ → (old new : List ℕ) → Type 0
Obeys files base before after line old new =
    ObeysAs files base before after (change_in (command_in line)) (line_obeyed files before.loaded before.managed line) old new

-- A line was obeyed, or everything is as it was.
abbrev pub Leaves : List File → (before after : Kept) → List ℕ → Type 0
Leaves files before after line = LeavesAs files before after (change_in (command_in line)) (line_obeyed files before.loaded before.managed line)

-- the machine after the change that adds the profiles of a file, with the flag that memory ran out
abbrev pub file_added : List File → Managed → List ℕ → Bool → Obeyed
file_added files managed name flag = obeyed_flagged files managed flag (Make (Add name))

-- The profiles of a file were added, and the text of the reply was appended.
abbrev pub Adds : List File → List ℕ → (before after : Kept) → List ℕ → (old new : List ℕ) → Type 0
Adds files base before after name old new = ObeysAs files base before after (Some (Add name)) (file_added files before.managed name) old new

-- The profiles of a file were added, or everything is as it was.
abbrev pub AddsOrLeaves : List File → (before after : Kept) → List ℕ → Type 0
AddsOrLeaves files before after name = LeavesAs files before after (Some (Add name)) (file_added files before.managed name)

-- the answer of a turn: a text, or what the caller has to do
pub data Answer : Type 0 where
  Told : (text : List ℕ) → Answer
  Ended : Answer
  Anew : Answer
  Compared : Answer
  Widened : Answer
  Asked : (question : Question) → Answer

-- the answer to a line, and the session after it
pub record Outcome : Type 0 where
  pub answer : Answer
  pub kept : Kept

-- the answer to a command for the machine that makes this change, if it makes one, by the machine after it
abbrev pub command_outcome : List File → List ℕ → Kept → Option PolicyChange → Obeyed → Outcome
command_outcome files base kept change obeyed = record {
  answer = Told (told_of files base kept change obeyed);
  kept = kept_after files kept change obeyed;
}

-- the answer to a line by its meaning, with the flag that memory ran out; that words are no question in these words
abbrev pub said_outcome : List File → List ℕ → List ℕ → Kept → List ℕ → Bool → Saying → Outcome
said_outcome files base words kept line flag Command =
    command_outcome files base kept (change_in (command_in line)) (line_obeyed files kept.loaded kept.managed line flag)
said_outcome files base words kept line flag Help = record { answer = Told help_text; kept = kept }
said_outcome files base words kept line flag History = record { answer = Told (history_told kept); kept = kept }
said_outcome files base words kept line flag Widen = record { answer = Widened; kept = kept }
said_outcome files base words kept line flag Quit = record { answer = Ended; kept = kept }
said_outcome files base words kept line flag Reload = record { answer = Anew; kept = kept }
said_outcome files base words kept line flag Status = record { answer = Compared; kept = kept }
said_outcome files base words kept line flag (Why question) = record { answer = Asked question; kept = kept }
said_outcome files base words kept line flag (NoQuestion fault) = record { answer = Told (no_question_told words fault); kept = kept }

-- the answer to a line
abbrev pub turn_outcome : List File → List ℕ → List ℕ → Kept → List ℕ → Bool → Outcome
turn_outcome files base words kept line flag = said_outcome files base words kept line flag (saying_in line)

-- The answer where the profiles of a file are added, by the file's name: that to a line that does so. But no line can name each file.
abbrev pub add_outcome : List File → List ℕ → Kept → List ℕ → Bool → Outcome
add_outcome files base kept name flag = command_outcome files base kept (Some (Add name)) (file_added files kept.managed name flag)

-- What is left where memory ran out: everything as it was, or the session after the change with some flag, where memory ran out only for the text.
abbrev pub IsLeftBy : (before after : Kept) → (Bool → Kept) → Type 0
IsLeftBy before after kept = (after ≡ before) ⊎ ((flag : Bool) × (after ≡ kept flag))

-- the session after a line, whatever is printed
abbrev pub kept_behind : List File → Kept → List ℕ → Bool → Kept
kept_behind files kept line flag = (turn_outcome files [] [] kept line flag).kept

-- what a line leaves at which memory ran out
abbrev pub IsLeft : List File → (before after : Kept) → List ℕ → Type 0
IsLeft files before after line = IsLeftBy before after (kept_behind files before line)

-- what is left where memory ran out for adding the profiles of a file
abbrev pub IsLeftAdding : List File → (before after : Kept) → List ℕ → Type 0
IsLeftAdding files before after name = IsLeftBy before after (λ flag. (add_outcome files [] before name flag).kept)
