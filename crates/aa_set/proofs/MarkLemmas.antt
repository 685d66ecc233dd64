-- Where marks lead, through the lines of a run.
use Rattle.std.proofs.Common.{◌≡◌, ℕ, Bool, true, false, cond, leb, ◌&&◌, List, length, Option, None, Some, Result, Ok, Err, is_some, refl, sym, ap, ◌∙◌, subst}
use Rattle.std.proofs.lemmas.Bool.{cond-false, cond-true}
use Rattle.std.specs.Map.{lookup}
use Rattle.std.specs.Str.{bytes_eq}
use Rattle.aa_decide_ready.specs.Entries.{Loaded}
use Rattle.aa_history.specs.Machine.{Machine, MarksItsSets, all_sets, gone_to_mark, gone_where, is_marked, with_mark}
use Rattle.aa_history.specs.MarkLaws.{MarkKeepsAll, MarkLeadsBack, MarkTwiceIsOnce, SparesThroughout, StartedMarksItsSets, StepsMarkTheirSets, run}
use Rattle.aa_set_commands.specs.Command.{Ask, Back, Command, Listed, Make, Mark, Redo, Show, Undo}
use Rattle.aa_set_commands.specs.Refusal.{plain}
use Rattle.aa_set_commands.specs.declared.refusal.Refusal.{Refusal}
use Rattle.aa_set_commands.specs.declared.refusal.RefusalKind.TheVariants.{BadRequest, LineTooLong, Memory, NoMark}
use Rattle.aa_set_commands.specs.Limits.{longest_line}
use Rattle.aa_set.specs.Laws.{BackNeverFails, BackTwiceIsOnce, GivesBack, MarkGivesBack, MarkLeavesSets, SameMarksLeadToOne, marks}
use Rattle.aa_set_manager.specs.Outcomes.{Outcome, changed, command_in, command_outcome, line_outcome, obeyed, refused, takes_memory}
use Rattle.aa_set_manager.specs.Manager.{Managed, back_at, is_mark_name, marking, new_manager_in, next}
use Rattle.aa_set.specs.Reply.{is_refusal}
use Rattle.aa_set.specs.Run.{after_lines}
use Rattle.aa_set_manager.specs.declared.reply.Reply.TheVariants.{Done}
use Rattle.aa_set.proofs.StepLemmas.{lines_mark, lines_steps}

abbrev Files : Type 0
Files = List (List ℕ × List ℕ)

-- an outcome leaves all but the marks
abbrev LeavesSets : Managed → Outcome → Type 0
LeavesSets m a = a.managed ≡ record m { machine = record m.machine { marks = a.managed.machine.marks } }

either_sets : (t : Bool) (m : Managed) (a b : Outcome) → LeavesSets m a → LeavesSets m b → LeavesSets m (cond t a b)
either_sets true m a b p q = p
either_sets false m a b p q = q

marking_sets : (m : Managed) (name : List ℕ) → LeavesSets m (changed m (marking name m))
marking_sets m name = by (is_mark_name name)
  where
    by : (t : Bool) → LeavesSets m (changed m (cond t (Ok (record m { machine = with_mark name m.machine })) (Err (plain BadRequest))))
    by true = refl
    by false = refl

command_sets : (files : Files) (m : Managed) (flag : Bool) (command : Result (Option Command) Refusal) → marks command ≡ true → LeavesSets m (command_outcome files m flag command)
command_sets files m flag (Err refusal) h = absurd (cc)
command_sets files m flag (Ok None) h = absurd (cc)
command_sets files m flag (Ok (Some (Make change))) h = absurd (cc)
command_sets files m flag (Ok (Some (Undo n))) h = absurd (cc)
command_sets files m flag (Ok (Some (Redo n))) h = absurd (cc)
command_sets files m flag (Ok (Some (Back name))) h = absurd (cc)
command_sets files m flag (Ok (Some (Ask question))) h = absurd (cc)
command_sets files m flag (Ok (Some Listed)) h = absurd (cc)
command_sets files m flag (Ok (Some (Show name))) h = absurd (cc)
command_sets files m flag (Ok (Some (Mark name))) h =
    either_sets (flag && takes_memory m (Mark name)) m (refused m (plain Memory)) (obeyed files m (Mark name)) refl (marking_sets m name)

-- a line that marks leaves all but the marks
pub mark-leaves : MarkLeavesSets
mark-leaves files m line flag h =
    either_sets (leb (length line) longest_line) m (command_outcome files m flag (command_in line)) (refused m (plain LineTooLong)) (command_sets files m flag (command_in line) h) refl

-- the way back to a mark, where it is one
back_is : (name : List ℕ) (m : Managed) → is_marked name m.machine ≡ true → back_at name m ≡ Ok (record m { machine = gone_to_mark name m.machine })
back_is name m h = cond-true _ _ _ h

-- a line that isn't too long is answered by its command
line_is : (files : Files) (m : Managed) (line : List ℕ) (flag : Bool) (command : Command) → leb (length line) longest_line ≡ true → command_in line ≡ Ok (Some command)
    → line_outcome files m line flag ≡ command_outcome files m flag (Ok (Some command))
line_is files m line flag command short is = cond-true _ _ _ short ∙ ap (command_outcome files m flag) is

back_line : (files : Files) (m : Managed) (line name : List ℕ) (flag : Bool) → leb (length line) longest_line ≡ true → command_in line ≡ Ok (Some (Back name))
    → is_marked name m.machine ≡ true → line_outcome files m line flag ≡ record { reply = Done; managed = record m { machine = gone_to_mark name m.machine } }
back_line files m line name flag short is h =
    line_is files m line flag (Back name) short is ∙ unflagged flag ∙ ap (changed m) (back_is name m h)
  where
    unflagged : (flag : Bool) → cond (flag && false) (refused m (plain Memory)) (changed m (back_at name m)) ≡ changed m (back_at name m)
    unflagged true = refl
    unflagged false = refl

-- `back` of a name that is marked never fails, and drops nothing
pub back-never-fails : StartedMarksItsSets (List Loaded) → StepsMarkTheirSets (List Loaded) → MarkKeepsAll (List Loaded) → BackNeverFails
back-never-fails started steps keep files language force_complain lines line name flag short is h =
    let m : Managed = after_lines files (new_manager_in language force_complain) lines in
    let there = lines_mark started steps files language force_complain lines in
    let kept = keep name m.machine there in
    subst (λ (a : Outcome). (a.reply ≡ Done) × (all_sets a.managed.machine ≡ all_sets m.machine) × (a.managed.machine.marks ≡ m.machine.marks))
    (sym (back_line files m line name flag short is h)) (refl, kept.0, kept.1)

-- an accepted `mark` marks
marked_is : (files : Files) (m : Managed) (line name : List ℕ) (flag : Bool) → command_in line ≡ Ok (Some (Mark name)) → is_refusal (line_outcome files m line flag).reply ≡ false
    → (line_outcome files m line flag).managed ≡ record m { machine = with_mark name m.machine }
marked_is files m line name flag is h =
    by (leb (length line) longest_line) (command_in line) is h
  where
    named : (t : Bool) → is_refusal (changed m (cond t (Ok (record m { machine = with_mark name m.machine })) (Err (plain BadRequest)))).reply ≡ false
        → (changed m (cond t (Ok (record m { machine = with_mark name m.machine })) (Err (plain BadRequest)))).managed ≡ record m { machine = with_mark name m.machine }
    named true h = refl
    named false h = absurd (cc)

    flagged : (t : Bool) → is_refusal (cond t (refused m (plain Memory)) (changed m (marking name m))).reply ≡ false
        → (cond t (refused m (plain Memory)) (changed m (marking name m))).managed ≡ record m { machine = with_mark name m.machine }
    flagged true h = absurd (cc)
    flagged false h = named (is_mark_name name) h

    by : (t : Bool) (command : Result (Option Command) Refusal) → command ≡ Ok (Some (Mark name)) → is_refusal (cond t (command_outcome files m flag command) (refused m (plain LineTooLong))).reply ≡ false
        → (cond t (command_outcome files m flag command) (refused m (plain LineTooLong))).managed ≡ record m { machine = with_mark name m.machine }
    by false command e h = absurd (cc)
    by true command e h =
        ap (λ command. (command_outcome files m flag command).managed) e
        ∙ flagged (flag && is_mark_name name) (subst (λ command. is_refusal (command_outcome files m flag command).reply ≡ false) e h)

-- `back` gives back the very policy set that was marked
pub mark-gives-back : StartedMarksItsSets (List Loaded) → StepsMarkTheirSets (List Loaded) → MarkLeadsBack (List Loaded) → MarkGivesBack
mark-gives-back started steps leads files language force_complain before lines line name flag is accepted leave =
    let m : Managed = after_lines files (new_manager_in language force_complain) before in
    let there = lines_mark started steps files language force_complain before in
    let e = marked_is files m line name flag is accepted in
    let first : Managed = (line_outcome files m line flag).managed in
    let those = lines_steps files first lines in
    let spared = subst (λ machine. SparesThroughout name (length m.machine.earlier) machine those.steps) (ap (λ managed. managed.machine) e) (those.spares name (length m.machine.earlier) leave) in
    let led = leads name m.machine those.steps there spared in
    let ends : (after_lines files first lines).machine ≡ run (with_mark name m.machine) those.steps = those.is ∙ ap (λ managed. run managed.machine those.steps) e in
    given (after_lines files first lines) m (run (with_mark name m.machine) those.steps) ends led
  where
    given : (after m : Managed) (machine : Machine (List Loaded)) → after.machine ≡ machine
        → (is_marked name machine ≡ true) × ((gone_to_mark name machine).now ≡ m.machine.now) × ((gone_to_mark name machine).earlier ≡ m.machine.earlier)
        → GivesBack m (back_at name after)
    given after m machine e led =
        let h : is_marked name after.machine ≡ true = ap (is_marked name) e ∙ led.0 in
        subst (GivesBack m) (sym (back_is name after h)) (ap (λ machine. (gone_to_mark name machine).now) e ∙ led.1, ap (λ machine. (gone_to_mark name machine).earlier) e ∙ led.2)

-- two names of one policy set lead to one manager
pub same-marks : SameMarksLeadToOne
same-marks name other m h = ap (λ found. cond {A = Result Managed Refusal} (is_some found) (Ok (record m { machine = gone_where found m.machine })) (Err (plain NoMark))) h

-- twice is once
pub back-twice : StartedMarksItsSets (List Loaded) → StepsMarkTheirSets (List Loaded) → MarkKeepsAll (List Loaded) → MarkTwiceIsOnce (List Loaded) → BackTwiceIsOnce
back-twice started steps keep twice files language force_complain lines name =
    let m : Managed = after_lines files (new_manager_in language force_complain) lines in
    let there = lines_mark started steps files language force_complain lines in
    by m there (is_marked name m.machine) refl
  where
    by : (m : Managed) → MarksItsSets m.machine → (t : Bool) → is_marked name m.machine ≡ t → next (back_at name) (back_at name m) ≡ back_at name m
    by m there true h =
        let again : is_marked name (gone_to_mark name m.machine) ≡ true = ap (λ marks. is_some (lookup (λ other. bytes_eq other name) marks)) (keep name m.machine there).1 ∙ h in
        ap (next (back_at name)) (back_is name m h)
        ∙ back_is name (record m { machine = gone_to_mark name m.machine }) again
        ∙ ap (λ (machine : Machine (List Loaded)). Ok (record m { machine = machine })) (twice name m.machine there)
        ∙ sym (back_is name m h)
    by m there false h = ap (next (back_at name)) (cond-false _ _ _ h) ∙ sym (cond-false _ _ _ h)
