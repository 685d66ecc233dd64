-- Lines as steps of the machine.
use Rattle.std.proofs.Common.{◌≡◌, ℕ, Bool, true, false, cond, leb, ◌&&◌, List, [], ◌∷◌, ◌++◌, length, Option, None, Some, Result, Ok, Err, is_some, refl, sym, ap, ◌∙◌, subst}
use Rattle.aa_decide_ready.specs.Entries.{Loaded}
use Rattle.aa_history.specs.Machine.{Machine, MarksItsSets, can_go_back, can_go_on, gone_back, gone_on, gone_where, marked, with_mark}
use Rattle.aa_history.specs.MarkLaws.{Accept, Mark as StepMark, Redo as StepOn, Return, SparesThroughout, StartedMarksItsSets, Step, StepsMarkTheirSets, Undo as StepBack, run, stepped}
use Rattle.aa_set_answers.specs.Answers.{reply_lines, shown}
use Rattle.aa_set_manager.specs.Changes.{changed as change_of_set, parts_of}
use Rattle.aa_profile_parsing.specs.declared.language.Language.{Language}
use Rattle.aa_set_commands.specs.Command.{Ask, Back, Command, Listed, Make, Mark, PolicyChange, Redo, Show, Undo}
use Rattle.aa_set_commands.specs.Refusal.{plain}
use Rattle.aa_set_commands.specs.declared.refusal.Refusal.{Refusal}
use Rattle.aa_set_commands.specs.declared.refusal.RefusalKind.TheVariants.{BadRequest, LineTooLong, Memory, NoMark, NothingToRedo, NothingToUndo}
use Rattle.aa_set_commands.specs.Limits.{longest_line}
use Rattle.aa_set.specs.Laws.{LeaveMark, MarkStands}
use Rattle.aa_set_manager.specs.Outcomes.{Outcome, changed, command_in, command_outcome, line_outcome, obeyed, refused, takes_memory}
use Rattle.aa_set_manager.specs.Manager.{Managed, after_change, back_at, is_mark_name, marking, new_manager_in, redone, undone}
use Rattle.aa_set.specs.Run.{after_lines}
use Rattle.aa_set.proofs.StayLaws.{answered-leaves}

abbrev Files : Type 0
Files = List (List ℕ × List ℕ)

abbrev Steps : Type 0
Steps = List (Step (List Loaded))

-- An outcome of a command is that of some steps, which spare each mark that the outcome leaves.
record StepsTo (m : Managed) (command : Result (Option Command) Refusal) (a : Outcome) : Type 0 where
  steps : Steps
  is : a.managed.machine ≡ run m.machine steps
  spares : (name : List ℕ) (number : ℕ) → MarkStands name number m command a.reply → SparesThroughout name number m.machine steps

-- an outcome that leaves the manager
no_steps : (m : Managed) (command : Result (Option Command) Refusal) (a : Outcome) → a.managed ≡ m → StepsTo m command a
no_steps m command a h = record { steps = []; is = ap (λ managed. managed.machine) h; spares = λ name number stands. tt }

either_steps : (t : Bool) (m : Managed) (command : Result (Option Command) Refusal) (a b : Outcome) → StepsTo m command a → StepsTo m command b → StepsTo m command (cond t a b)
either_steps true m command a b p q = p
either_steps false m command a b p q = q

made_steps : (m : Managed) (change : PolicyChange) (size : ℕ) (result : Result (List Loaded) Refusal) → StepsTo m (Ok (Some (Make change))) (changed m (after_change m size result))
made_steps m change size (Ok entries) = record { steps = Accept entries ∷ []; is = refl; spares = λ name number stands. (stands refl, tt) }
made_steps m change size (Err refusal) = record { steps = []; is = refl; spares = λ name number stands. tt }

back_steps : (m : Managed) (n : ℕ) → StepsTo m (Ok (Some (Undo n))) (changed m (undone n m))
back_steps m n = record { steps = StepBack n ∷ []; is = by (can_go_back n m.machine); spares = λ name number stands. (tt, tt) }
  where
    by : (t : Bool) → (changed m (cond t (Ok (record m { machine = gone_back n m.machine })) (Err (plain NothingToUndo)))).managed.machine ≡ cond t (gone_back n m.machine) m.machine
    by true = refl
    by false = refl

on_steps : (m : Managed) (n : ℕ) → StepsTo m (Ok (Some (Redo n))) (changed m (redone n m))
on_steps m n = record { steps = StepOn n ∷ []; is = by (can_go_on n m.machine); spares = λ name number stands. (tt, tt) }
  where
    by : (t : Bool) → (changed m (cond t (Ok (record m { machine = gone_on n m.machine })) (Err (plain NothingToRedo)))).managed.machine ≡ cond t (gone_on n m.machine) m.machine
    by true = refl
    by false = refl

return_steps : (m : Managed) (name : List ℕ) → StepsTo m (Ok (Some (Back name))) (changed m (back_at name m))
return_steps m name = record { steps = Return name ∷ []; is = by (marked name m.machine); spares = λ other number stands. (tt, tt) }
  where
    by : (found : Option ℕ) → (changed m (cond (is_some found) (Ok (record m { machine = gone_where found m.machine })) (Err (plain NoMark)))).managed.machine ≡ gone_where found m.machine
    by None = refl
    by (Some number) = refl

mark_steps : (m : Managed) (name : List ℕ) → StepsTo m (Ok (Some (Mark name))) (changed m (marking name m))
mark_steps m name = by (is_mark_name name)
  where
    by : (t : Bool) → StepsTo m (Ok (Some (Mark name))) (changed m (cond t (Ok (record m { machine = with_mark name m.machine })) (Err (plain BadRequest))))
    by true = record { steps = StepMark name ∷ []; is = refl; spares = λ other number stands. (stands refl, tt) }
    by false = record { steps = []; is = refl; spares = λ other number stands. tt }

obeyed_steps : (files : Files) (m : Managed) (command : Command) → StepsTo m (Ok (Some command)) (obeyed files m command)
obeyed_steps files m (Make change) = made_steps m change (parts_of files m.settings change) (change_of_set files m.settings m.machine.now change)
obeyed_steps files m (Undo n) = back_steps m n
obeyed_steps files m (Redo n) = on_steps m n
obeyed_steps files m (Mark name) = mark_steps m name
obeyed_steps files m (Back name) = return_steps m name
obeyed_steps files m (Ask question) = no_steps m (Ok (Some (Ask question))) (obeyed files m (Ask question)) (answered-leaves m (reply_lines m.machine.now question))
obeyed_steps files m Listed = no_steps m (Ok (Some Listed)) (obeyed files m Listed) refl
obeyed_steps files m (Show name) = no_steps m (Ok (Some (Show name))) (obeyed files m (Show name)) (answered-leaves m (shown m.machine.now name))

command_steps : (files : Files) (m : Managed) (flag : Bool) (command : Result (Option Command) Refusal) → StepsTo m command (command_outcome files m flag command)
command_steps files m flag (Err refusal) = no_steps m (Err refusal) (refused m refusal) refl
command_steps files m flag (Ok None) = no_steps m (Ok None) (command_outcome files m flag (Ok None)) refl
command_steps files m flag (Ok (Some command)) =
    either_steps (flag && takes_memory m command) m (Ok (Some command)) (refused m (plain Memory)) (obeyed files m command)
    (no_steps m (Ok (Some command)) (refused m (plain Memory)) refl) (obeyed_steps files m command)

line_steps : (files : Files) (m : Managed) (line : List ℕ × Bool) → StepsTo m (command_in line.0) (line_outcome files m line.0 line.1)
line_steps files m line =
    either_steps (leb (length line.0) longest_line) m (command_in line.0) (command_outcome files m line.1 (command_in line.0)) (refused m (plain LineTooLong))
    (command_steps files m line.1 (command_in line.0)) (no_steps m (command_in line.0) (refused m (plain LineTooLong)) refl)

run-append : (machine : Machine (List Loaded)) (some more : Steps) → run machine (some ++ more) ≡ run (run machine some) more
run-append machine [] more = refl
run-append machine (step ∷ some) more = run-append (stepped machine step) some more

spares-append : (name : List ℕ) (number : ℕ) (machine : Machine (List Loaded)) (some more : Steps) → SparesThroughout name number machine some
    → SparesThroughout name number (run machine some) more → SparesThroughout name number machine (some ++ more)
spares-append name number machine [] more p q = q
spares-append name number machine (step ∷ some) more p q = (p.0, spares-append name number (stepped machine step) some more p.1 q)

-- Lines lead to where some steps lead, which spare each mark that the lines leave.
pub record AreSteps (files : Files) (m : Managed) (lines : List (List ℕ × Bool)) : Type 0 where
  pub steps : Steps
  pub is : (after_lines files m lines).machine ≡ run m.machine steps
  pub spares : (name : List ℕ) (number : ℕ) → LeaveMark files name number m lines → SparesThroughout name number m.machine steps

pub lines_steps : (files : Files) (m : Managed) (lines : List (List ℕ × Bool)) → AreSteps files m lines
lines_steps files m [] = record { steps = []; is = refl; spares = λ name number leave. tt }
lines_steps files m (line ∷ lines) =
    let first = line_steps files m line in
    let rest = lines_steps files (line_outcome files m line.0 line.1).managed lines in
    record {
      steps = first.steps ++ rest.steps;
      is = rest.is ∙ ap (λ machine. run machine rest.steps) first.is ∙ sym (run-append m.machine first.steps rest.steps);
      spares = λ name number leave. spares-append name number m.machine first.steps rest.steps (first.spares name number leave.0)
          (subst (λ machine. SparesThroughout name number machine rest.steps) first.is (rest.spares name number leave.1));
    }

-- each mark is of a policy set that there is, wherever a run comes to
pub lines_mark : StartedMarksItsSets (List Loaded) → StepsMarkTheirSets (List Loaded) → (files : Files) (language : Language) (force_complain : Bool) (lines : List (List ℕ × Bool))
    → MarksItsSets (after_lines files (new_manager_in language force_complain) lines).machine
lines_mark started steps files language force_complain lines =
    let those = lines_steps files (new_manager_in language force_complain) lines in
    subst MarksItsSets (sym those.is) (steps (new_manager_in language force_complain).machine those.steps (started []))

-- and after each line that is answered then
pub line_marks : StepsMarkTheirSets (List Loaded) → (files : Files) (m : Managed) (line : List ℕ × Bool) → MarksItsSets m.machine
    → MarksItsSets (line_outcome files m line.0 line.1).managed.machine
line_marks steps files m line h = let those = line_steps files m line in subst MarksItsSets (sym those.is) (steps m.machine those.steps h)
