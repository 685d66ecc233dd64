-- The laws of the manager, and their definitions: which lines change the policy set, which ones undo, redo or go back to a mark, and which ones mark
-- it.
use Rattle.std.specs.Prelude.{◌≡◌, ◌≢◌, ℕ, ◌+◌, ◌≤◌, nat_le, length, Bool, true, false, not, ◌&&◌, if◌then◌else◌}
use Rattle.std.specs.Prelude.{List, ◌∷◌, [], ◌++◌, IfOk, Option, Some, Result, Ok, Err}
use Rattle.aa_text_files.specs.Files.{File}
use Rattle.aa_history.specs.Machine.{all_sets, is_marked, marked}
use Rattle.aa_profile_parsing.specs.declared.language.Language.{Language}
use Rattle.aa_set_commands.specs.Command.{Ask, Back, Command, Listed, Make, Mark, Redo, Show, Undo}
use Rattle.aa_set_commands.specs.declared.refusal.Refusal.{Refusal}
use Rattle.aa_set_manager.specs.Manager.{AreDistinct, Managed, back_at, new_manager_in, next, redone, undone}
use Rattle.aa_set.specs.Reply.{is_refusal}
use Rattle.aa_set_manager.specs.declared.reply.Reply.{Reply}
use Rattle.aa_set_manager.specs.declared.reply.Reply.TheVariants.{Done}
use Rattle.aa_set_commands.specs.Limits.{longest_line}
use Rattle.aa_set.specs.Run.{after_lines, output, output_so_far, replies}
use Rattle.aa_set_manager.specs.Outcomes.{command_in, line_outcome}

-- a command changes the policy set, unless it is refused
abbrev pub is_change : Result (Option Command) Refusal → Bool
is_change (Ok (Some (Make change))) = true
is_change _ = false

-- a command undoes, redoes or goes back to a mark
abbrev pub goes : Result (Option Command) Refusal → Bool
goes (Ok (Some (Undo n))) = true
goes (Ok (Some (Redo n))) = true
goes (Ok (Some (Back name))) = true
goes _ = false

-- a command marks the policy set, unless it is refused
abbrev pub marks : Result (Option Command) Refusal → Bool
marks (Ok (Some (Mark name))) = true
marks _ = false

-- a command asks for a decision of the policy set, or for its contents
abbrev pub is_question : Result (Option Command) Refusal → Bool
is_question (Ok (Some (Ask question))) = true
is_question (Ok (Some Listed)) = true
is_question (Ok (Some (Show name))) = true
is_question _ = false

-- none of these lines undoes, redoes or goes back to a mark
abbrev pub NoneGoes : List (List ℕ × Bool) → Type 0
NoneGoes [] = Unit {0}
NoneGoes (line ∷ lines) = (goes (command_in line.0) ≡ false) × NoneGoes lines

-- how many of these lines are accepted changes
abbrev pub changes : List File → Managed → List (List ℕ × Bool) → ℕ
changes files managed [] = 0
changes files managed (line ∷ lines) =
    let first = line_outcome files managed line.0 line.1 in
    (if is_change (command_in line.0) && not (is_refusal first.reply) then 1 else 0) + changes files first.managed lines

-- An undo was accepted, and it gave back the very policy set of another manager, and the sets before it.
abbrev pub GivesBack : Managed → Result Managed Refusal → Type 0
GivesBack managed (Ok after) = (after.machine.now ≡ managed.machine.now) × (after.machine.earlier ≡ managed.machine.earlier)
GivesBack managed (Err refusal) = ⊥

-- A refused line leaves the policy set, both lists of sets, and the marks.
abbrev pub RefusedLineLeavesAll : Type 0
RefusedLineLeavesAll =
    (files : List File) (managed : Managed) (line : List ℕ) (flag : Bool)
    → is_refusal (line_outcome files managed line flag).reply ≡ true
    → (line_outcome files managed line flag).managed ≡ managed

-- So does any line whose command neither changes, nor undoes, redoes or goes back to a mark, nor marks.
abbrev pub OtherLineLeavesAll : Type 0
OtherLineLeavesAll =
    (files : List File) (managed : Managed) (line : List ℕ) (flag : Bool)
    → is_change (command_in line) ≡ false
    → goes (command_in line) ≡ false
    → marks (command_in line) ≡ false
    → (line_outcome files managed line flag).managed ≡ managed

-- A line whose command marks leaves all but the marks.
abbrev pub MarkLeavesSets : Type 0
MarkLeavesSets =
    (files : List File) (managed : Managed) (line : List ℕ) (flag : Bool)
    → marks (command_in line) ≡ true
    → let after = (line_outcome files managed line flag).managed in
    after ≡ record managed { machine = record managed.machine { marks = after.machine.marks } }

-- After lines of which none undoes, redoes or goes back to a mark, undoing as many changes as were accepted gives back the policy set from before
-- them.
abbrev pub UndoGivesBack : Type 0
UndoGivesBack =
    (files : List File) (managed : Managed) (lines : List (List ℕ × Bool))
    → NoneGoes lines
    → GivesBack managed (undone (changes files managed lines) (after_lines files managed lines))

-- The reply to a question, to `list` and to `show` depends on the policy set alone.
abbrev pub SetDecidesAnswer : Type 0
SetDecidesAnswer =
    (files : List File) (one other : Managed) (line : List ℕ) (flag : Bool)
    → is_question (command_in line) ≡ true
    → one.machine.now ≡ other.machine.now
    → (line_outcome files one line flag).reply ≡ (line_outcome files other line flag).reply

-- No policy set of a run has two profiles of one name.
abbrev pub SetsHaveDistinctNames : Type 0
SetsHaveDistinctNames =
    (files : List File) (language : Language) (force_complain : Bool) (lines : List (List ℕ × Bool))
    → AreDistinct (all_sets (after_lines files (new_manager_in language force_complain) lines).machine)

-- Undoing some changes and then more is undoing them at once, and likewise with redoing.
abbrev pub StepsAdd : Type 0
StepsAdd =
    (some more : ℕ) (managed : Managed)
    → (undone (some + more) managed ≡ next (undone more) (undone some managed))
    × (redone (some + more) managed ≡ next (redone more) (redone some managed))

-- Redoing what was undone gives back the manager, policy set and history, and so does undoing what was redone.
abbrev pub StepsReturn : Type 0
StepsReturn =
    (n : ℕ) (managed : Managed)
    → IfOk (undone n managed) (λ after. redone n after ≡ Ok managed) × IfOk (redone n managed) (λ after. undone n after ≡ Ok managed)

-- What is written for the whole lines of an input, for some flags on them, is a prefix of what is written for that input and any more, for some
-- flags.
abbrev pub SoFarIsFront : Type 0
SoFarIsFront =
    (files : List File) (begin : Managed) (input more : List ℕ) (flags : List Bool)
    → (later : List Bool) × (rest : List ℕ)
    × (output files begin (input ++ more) later ≡ output_so_far files begin input flags ++ rest)

-- none of these flags says that memory ran out at a line
abbrev pub NoneFlagged : List Bool → Type 0
NoneFlagged [] = Unit {0}
NoneFlagged (flag ∷ flags) = (flag ≡ false) × NoneFlagged flags

-- Two runs over the same bytes, in whatever pieces these come, give the same replies where memory ran out at no line of either.
abbrev pub PiecesChangeNoReply : Type 0
PiecesChangeNoReply =
    (files : List File) (begin : Managed) (input : List ℕ) (some others : List Bool)
    → NoneFlagged some
    → NoneFlagged others
    → replies files begin input some ≡ replies files begin input others

-- A name that is marked always leads back: in any run `back` of it is answered `ok`, whether memory is left or not, and
-- it drops no policy set and no mark.
abbrev pub BackNeverFails : Type 0
BackNeverFails =
    (files : List File) (language : Language) (force_complain : Bool) (lines : List (List ℕ × Bool)) (line name : List ℕ) (flag : Bool)
    → let managed = after_lines files (new_manager_in language force_complain) lines in
    let outcome = line_outcome files managed line flag in
    nat_le (length line) longest_line ≡ true
    → command_in line ≡ Ok (Some (Back name))
    → is_marked name managed.machine ≡ true
    → (outcome.reply ≡ Done) × (all_sets outcome.managed.machine ≡ all_sets managed.machine) × (outcome.managed.machine.marks ≡ managed.machine.marks)

-- A command with its reply leaves what a name marks: it isn't a change accepted with fewer earlier policy sets than so many, and gives the name to
-- no other set.
abbrev pub MarkStands : List ℕ → ℕ → Managed → Result (Option Command) Refusal → Reply → Type 0
MarkStands name number managed (Ok (Some (Make change))) reply = is_refusal reply ≡ false → number ≤ length managed.machine.earlier
MarkStands name number managed (Ok (Some (Mark other))) reply = is_refusal reply ≡ false → other ≢ name
MarkStands name number managed _ reply = Unit {0}

-- each of these lines leaves what a name marks
abbrev pub LeaveMark : List File → List ℕ → ℕ → Managed → List (List ℕ × Bool) → Type 0
LeaveMark files name number managed [] = Unit {0}
LeaveMark files name number managed (line ∷ lines) =
    let first = line_outcome files managed line.0 line.1 in
    MarkStands name number managed (command_in line.0) first.reply × LeaveMark files name number first.managed lines

-- Whatever lines follow in a run after an accepted `mark` of a name, as long as they leave what it marks, `back` of it gives back the very policy
-- set that was marked, and the sets before it.
abbrev pub MarkGivesBack : Type 0
MarkGivesBack =
    (files : List File) (language : Language) (force_complain : Bool) (before lines : List (List ℕ × Bool)) (line name : List ℕ) (flag : Bool)
    → let managed = after_lines files (new_manager_in language force_complain) before in
    let marked = line_outcome files managed line flag in
    command_in line ≡ Ok (Some (Mark name))
    → is_refusal marked.reply ≡ false
    → LeaveMark files name (length managed.machine.earlier) marked.managed lines
    → GivesBack managed (back_at name (after_lines files marked.managed lines))

-- Two names that mark one policy set lead to one manager.
abbrev pub SameMarksLeadToOne : Type 0
SameMarksLeadToOne =
    (name other : List ℕ) (managed : Managed)
    → marked name managed.machine ≡ marked other managed.machine
    → back_at name managed ≡ back_at other managed

-- In any run, going to a mark twice is going there once.
abbrev pub BackTwiceIsOnce : Type 0
BackTwiceIsOnce =
    (files : List File) (language : Language) (force_complain : Bool) (lines : List (List ℕ × Bool)) (name : List ℕ)
    → let managed = after_lines files (new_manager_in language force_complain) lines in
    next (back_at name) (back_at name managed) ≡ back_at name managed
