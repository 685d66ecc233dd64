-- The laws of the machine.
use Rattle.std.proofs.Common.{◌≡◌, ℕ, ◌+◌, Bool, true, false, not, cond, leb, ◌&&◌, List, [], ◌∷◌, ◌++◌, length, Option, None, Some, Result, Ok, Err, IfOk, is_some, refl, sym, ap, ◌∙◌, subst, arith, append_assoc, append-nil, length-append}
use Rattle.std.proofs.lemmas.Bool.{cond-false, cond-true, le-leb, true≢false}
use Rattle.aa_history.specs.Machine.{MarksItsSets, all_sets, can_go_back, can_go_on, gone_back, gone_on, gone_where, marked, with_mark}
use Rattle.aa_history.specs.MachineLaws.{BackAfterOn, BackFromNewSets, BackKeepsSets, CanGoBackInParts, CanGoOnInParts, GoesBackInParts, GoesOnInParts, LengthsAfterBack, LengthsAfterOn, OnAfterBack, OnKeepsSets}
use Rattle.aa_history.specs.MarkLaws.{MarkKeepsAll, StartedMarksItsSets, StepsMarkTheirSets}
use Rattle.aa_profile_parsing.specs.declared.language.Language.{Language}
use Rattle.aa_set_commands.specs.Command.{Ask, Back, Command, Listed, Make, Mark, Redo, Show, Undo}
use Rattle.aa_set_commands.specs.Refusal.{plain}
use Rattle.aa_set_commands.specs.declared.refusal.Refusal.{Refusal}
use Rattle.aa_set_commands.specs.declared.refusal.RefusalKind.TheVariants.{BadRequest, LineTooLong, Memory, NoMark, NothingToRedo, NothingToUndo}
use Rattle.aa_set_answers.specs.Answers.{reply_lines, shown}
use Rattle.aa_set_manager.specs.ChangeLaws.{ChangesKeepNamesApart}
use Rattle.aa_set_manager.specs.Changes.{changed as change_of_set, parts_of}
use Rattle.aa_decide_ready.specs.Named.{have_distinct_names}
use Rattle.aa_set_commands.specs.Limits.{longest_line}
use Rattle.aa_set_commands.specs.Lines.{lines}
use Rattle.aa_set_answers.specs.List.{list_lines}
use Rattle.aa_set.specs.Laws.{GivesBack, NoneFlagged, NoneGoes, PiecesChangeNoReply, StepsAdd, StepsReturn, changes, goes, is_change}
use Rattle.aa_set_manager.specs.Outcomes.{Outcome, answered, changed, command_in, command_outcome, line_outcome, obeyed, refused, takes_memory}
use Rattle.aa_set_manager.specs.Manager.{AreDistinct, Managed, after_change, back_at, is_mark_name, marking, new_manager_in, next, redone, undone}
use Rattle.aa_set.specs.Reply.{is_refusal}
use Rattle.aa_set.specs.Run.{after_lines, flagged, replies_to}
use Rattle.aa_decide_ready.specs.Entries.{Loaded}
use Rattle.aa_set.proofs.StepLemmas.{line_marks}
use Rattle.aa_set_manager.proofs.DistinctLemmas.{accepted-distinct, distinct-behind}
use Rattle.aa_set_manager.specs.declared.reply.Reply.{Reply}
use Rattle.aa_set_manager.specs.declared.reply.Reply.TheVariants.{Answered, Refused, Silent}

abbrev Files : Type 0
Files = List (List ℕ × List ℕ)

-- the sets that a manager has behind it, and then the one it has now
abbrev sets_of : Managed → List (List Loaded)
sets_of m = m.machine.earlier ++ m.machine.now ∷ []

-- an answer put one set behind the others, if it accepted a change, and else none
Grows : Bool → Managed → Outcome → Type 0
Grows change m a = (new : List (List Loaded)) × (sets_of a.managed ≡ sets_of m ++ new) × (length new ≡ cond (change && not (is_refusal a.reply)) 1 0)

stays : (change : Bool) (m : Managed) (reply : Reply) → (change && not (is_refusal reply)) ≡ false → Grows change m (record { reply = reply; managed = m })
unfolding Grows
stays change m reply h = ([], sym (append-nil (sets_of m)), ap (λ t. cond t 1 0) (sym h))

refusal_stays : (change : Bool) (m : Managed) (refusal : Refusal) → Grows change m (refused m refusal)
refusal_stays true m refusal = stays true m (Refused refusal) refl
refusal_stays false m refusal = stays false m (Refused refusal) refl

either_grows : (t change : Bool) (m : Managed) (a b : Outcome) → Grows change m a → Grows change m b → Grows change m (cond t a b)
either_grows true change m a b p q = p
either_grows false change m a b p q = q

change_grows : (m : Managed) (size : ℕ) (r : Result (List Loaded) Refusal) → Grows true m (changed m (after_change m size r))
unfolding Grows
change_grows m size (Ok entries) = (entries ∷ [], refl, refl)
change_grows m size (Err refusal) = refusal_stays true m refusal

answered_grows : (m : Managed) (r : Result (List ℕ) Refusal) → Grows false m (answered m r)
answered_grows m (Ok lines) = stays false m (Answered lines) refl
answered_grows m (Err refusal) = refusal_stays false m refusal

mark_grows : (m : Managed) (name : List ℕ) (t : Bool) → Grows false m (changed m (cond t (Ok (record m { machine = with_mark name m.machine })) (Err (plain BadRequest))))
unfolding Grows
mark_grows m name true = ([], sym (append-nil (sets_of m)), refl)
mark_grows m name false = refusal_stays false m (plain BadRequest)

-- a command that takes memory as it says, and else is obeyed
flag_grows : (files : Files) (m : Managed) (flag change : Bool) (command : Command) → Grows change m (obeyed files m command)
    → Grows change m (cond (flag && takes_memory m command) (refused m (plain Memory)) (obeyed files m command))
flag_grows files m flag change command grown =
    either_grows (flag && takes_memory m command) change m (refused m (plain Memory)) (obeyed files m command) (refusal_stays change m (plain Memory)) grown

command_grows : (files : Files) (m : Managed) (flag : Bool) (command : Result (Option Command) Refusal) → goes command ≡ false → Grows (is_change command) m (command_outcome files m flag command)
command_grows files m flag (Err refusal) h = refusal_stays false m refusal
command_grows files m flag (Ok None) h = stays false m Silent refl
command_grows files m flag (Ok (Some (Undo n))) h = absurd (true≢false h)
command_grows files m flag (Ok (Some (Redo n))) h = absurd (true≢false h)
command_grows files m flag (Ok (Some (Back name))) h = absurd (true≢false h)
command_grows files m flag (Ok (Some (Mark name))) h = flag_grows files m flag false (Mark name) (mark_grows m name (is_mark_name name))
command_grows files m flag (Ok (Some (Make change))) h =
    flag_grows files m flag true (Make change) (change_grows m (parts_of files m.settings change) (change_of_set files m.settings m.machine.now change))
command_grows files m flag (Ok (Some (Ask question))) h = flag_grows files m flag false (Ask question) (answered_grows m (reply_lines m.machine.now question))
command_grows files m flag (Ok (Some Listed)) h = flag_grows files m flag false Listed (answered_grows m (Ok (list_lines m.machine.now)))
command_grows files m flag (Ok (Some (Show name))) h = flag_grows files m flag false (Show name) (answered_grows m (shown m.machine.now name))

line_grows : (files : Files) (m : Managed) (line : List ℕ) (flag : Bool) → goes (command_in line) ≡ false → Grows (is_change (command_in line)) m (line_outcome files m line flag)
line_grows files m line flag h =
    either_grows (leb (length line) longest_line) (is_change (command_in line)) m (command_outcome files m flag (command_in line)) (refused m (plain LineTooLong))
    (command_grows files m flag (command_in line) h) (refusal_stays (is_change (command_in line)) m (plain LineTooLong))

-- lines of which none goes back or on put as many sets behind the others as they made changes
lines_grow : (files : Files) (m : Managed) (lines : List (List ℕ × Bool)) → NoneGoes lines
    → (new : List (List Loaded)) × (sets_of (after_lines files m lines) ≡ sets_of m ++ new) × (length new ≡ changes files m lines)
unfolding Grows
lines_grow files m [] h = ([], sym (append-nil (sets_of m)), refl)
lines_grow files m (line ∷ lines) h =
    let first : Outcome = line_outcome files m line.0 line.1 in
    let one = line_grows files m line.0 line.1 h.0 in
    let rest = lines_grow files first.managed lines h.1 in (
      one.0 ++ rest.0,
      rest.1 ∙ ap (λ sets. sets ++ rest.0) one.1 ∙ append_assoc (sets_of m) one.0 rest.0,
      length-append one.0 rest.0 ∙ ap (λ n. n + length rest.0) one.2 ∙ ap (λ n. cond (is_change (command_in line.0) && not (is_refusal first.reply)) 1 0 + n) rest.2,
    )

done_back : (n : ℕ) (m : Managed) → can_go_back n m.machine ≡ true → undone n m ≡ Ok (record m { machine = gone_back n m.machine })
done_back n m h = cond-true _ _ _ h

done_on : (n : ℕ) (m : Managed) → can_go_on n m.machine ≡ true → redone n m ≡ Ok (record m { machine = gone_on n m.machine })
done_on n m h = cond-true _ _ _ h

-- a manager that put sets behind those of another gives them back by as many changes back
given_back : BackFromNewSets (List Loaded) → (m after : Managed) (new : List (List Loaded)) (n : ℕ) → sets_of after ≡ sets_of m ++ new → length new ≡ n → GivesBack m (undone n after)
given_back back m after new n sets size =
    let (can, is) = back m.machine after.machine new (sets ∙ append_assoc m.machine.earlier (m.machine.now ∷ []) new) in
    subst (λ n. GivesBack m (undone n after)) size
    (subst (GivesBack m) (sym (done_back (length new) after can))
    (ap (λ machine. machine.now) is, ap (λ machine. machine.earlier) is))

pub restored : BackFromNewSets (List Loaded) → (files : Files) (m : Managed) (lines : List (List ℕ × Bool)) → NoneGoes lines
    → GivesBack m (undone (changes files m lines) (after_lines files m lines))
restored back files m lines h = let grown = lines_grow files m lines h in given_back back m (after_lines files m lines) grown.0 (changes files m lines) grown.1 grown.2

changed_distinct : (m : Managed) (size : ℕ) (r : Result (List Loaded) Refusal) → AreDistinct (all_sets m.machine) → IfOk r (λ set. have_distinct_names set ≡ true)
    → AreDistinct (all_sets (changed m (after_change m size r)).managed.machine)
changed_distinct m size (Err refusal) h d = h
changed_distinct m size (Ok set) h d = accepted-distinct m.machine set h d

undone_distinct : BackKeepsSets (List Loaded) → (m : Managed) (n : ℕ) → AreDistinct (all_sets m.machine) → AreDistinct (all_sets (changed m (undone n m)).managed.machine)
undone_distinct keep m n h = by (can_go_back n m.machine) refl
  where
    by : (t : Bool) → can_go_back n m.machine ≡ t
        → AreDistinct (all_sets (changed m (cond t (Ok (record m { machine = gone_back n m.machine })) (Err (plain NothingToUndo)))).managed.machine)
    by true e = subst AreDistinct (sym (keep n m.machine e)) h
    by false e = h

redone_distinct : OnKeepsSets (List Loaded) → (m : Managed) (n : ℕ) → AreDistinct (all_sets m.machine) → AreDistinct (all_sets (changed m (redone n m)).managed.machine)
redone_distinct keep m n h = by (can_go_on n m.machine) refl
  where
    by : (t : Bool) → can_go_on n m.machine ≡ t
        → AreDistinct (all_sets (changed m (cond t (Ok (record m { machine = gone_on n m.machine })) (Err (plain NothingToRedo)))).managed.machine)
    by true e = subst AreDistinct (sym (keep n m.machine e)) h
    by false e = h

mark_distinct : (m : Managed) (name : List ℕ) → AreDistinct (all_sets m.machine) → AreDistinct (all_sets (changed m (marking name m)).managed.machine)
mark_distinct m name h = by (is_mark_name name)
  where
    by : (t : Bool) → AreDistinct (all_sets (changed m (cond t (Ok (record m { machine = with_mark name m.machine })) (Err (plain BadRequest)))).managed.machine)
    by true = h
    by false = h

returned_distinct : MarkKeepsAll (List Loaded) → (m : Managed) (name : List ℕ) → MarksItsSets m.machine → AreDistinct (all_sets m.machine)
    → AreDistinct (all_sets (changed m (back_at name m)).managed.machine)
returned_distinct keep m name there h = by (marked name m.machine) (subst AreDistinct (sym (keep name m.machine there).0) h)
  where
    by : (found : Option ℕ) → AreDistinct (all_sets (gone_where found m.machine))
        → AreDistinct (all_sets (changed m (cond (is_some found) (Ok (record m { machine = gone_where found m.machine })) (Err (plain NoMark)))).managed.machine)
    by None d = d
    by (Some number) d = d

answered_distinct : (m : Managed) (r : Result (List ℕ) Refusal) → AreDistinct (all_sets m.machine) → AreDistinct (all_sets (answered m r).managed.machine)
answered_distinct m (Ok lines) h = h
answered_distinct m (Err refusal) h = h

either_distinct : (t : Bool) (a b : Outcome) → AreDistinct (all_sets a.managed.machine) → AreDistinct (all_sets b.managed.machine) → AreDistinct (all_sets (cond t a b).managed.machine)
either_distinct true a b p q = p
either_distinct false a b p q = q

-- what keeps names apart: going back, going on, each change, and going to a mark, since each is of a set that there is
pub record Keeping : Type 0 where
  pub back : BackKeepsSets (List Loaded)
  pub on : OnKeepsSets (List Loaded)
  pub changes : ChangesKeepNamesApart
  pub to_mark : MarkKeepsAll (List Loaded)
  pub started : StartedMarksItsSets (List Loaded)
  pub steps : StepsMarkTheirSets (List Loaded)

obeyed_distinct : Keeping → (files : Files) (m : Managed) (command : Command) → MarksItsSets m.machine → AreDistinct (all_sets m.machine)
    → AreDistinct (all_sets (obeyed files m command).managed.machine)
obeyed_distinct keep files m (Undo n) there h = undone_distinct keep.back m n h
obeyed_distinct keep files m (Redo n) there h = redone_distinct keep.on m n h
obeyed_distinct keep files m (Mark name) there h = mark_distinct m name h
obeyed_distinct keep files m (Back name) there h = returned_distinct keep.to_mark m name there h
obeyed_distinct keep files m (Make change) there h =
    let now = distinct-behind m.machine.earlier (m.machine.now ∷ m.machine.later) h in
    changed_distinct m (parts_of files m.settings change) (change_of_set files m.settings m.machine.now change) h (keep.changes files m.settings m.machine.now change now.0)
obeyed_distinct keep files m (Ask question) there h = answered_distinct m (reply_lines m.machine.now question) h
obeyed_distinct keep files m Listed there h = answered_distinct m (Ok (list_lines m.machine.now)) h
obeyed_distinct keep files m (Show name) there h = answered_distinct m (shown m.machine.now name) h

command_distinct : Keeping → (files : Files) (m : Managed) (flag : Bool) (command : Result (Option Command) Refusal) → MarksItsSets m.machine → AreDistinct (all_sets m.machine)
    → AreDistinct (all_sets (command_outcome files m flag command).managed.machine)
command_distinct keep files m flag (Err refusal) there h = h
command_distinct keep files m flag (Ok None) there h = h
command_distinct keep files m flag (Ok (Some command)) there h =
    either_distinct (flag && takes_memory m command) (refused m (plain Memory)) (obeyed files m command) h (obeyed_distinct keep files m command there h)

lines_distinct : Keeping → (files : Files) (m : Managed) (lines : List (List ℕ × Bool)) → MarksItsSets m.machine → AreDistinct (all_sets m.machine)
    → AreDistinct (all_sets (after_lines files m lines).machine)
lines_distinct keep files m [] there h = h
lines_distinct keep files m (line ∷ lines) there h = lines_distinct keep files (line_outcome files m line.0 line.1).managed lines (line_marks keep.steps files m line there)
    (either_distinct (leb (length line.0) longest_line) (command_outcome files m line.1 (command_in line.0)) (refused m (plain LineTooLong))
    (command_distinct keep files m line.1 (command_in line.0) there h) h)

pub distinct : Keeping → (files : Files) (language : Language) (force_complain : Bool) (lines : List (List ℕ × Bool)) → AreDistinct (all_sets (after_lines files (new_manager_in language force_complain) lines).machine)
distinct keep files language force_complain lines = lines_distinct keep files (new_manager_in language force_complain) lines (keep.started []) (refl, tt)

-- undoing k and n changes at once is undoing k and then n
undone_sum : CanGoBackInParts (List Loaded) → GoesBackInParts (List Loaded) → (k n : ℕ) (m : Managed) → undone (k + n) m ≡ next (undone n) (undone k m)
undone_sum can back k n m = by (can_go_back k m.machine) (can_go_back n (gone_back k m.machine)) refl refl
  where
    by : (t u : Bool) → can_go_back k m.machine ≡ t → can_go_back n (gone_back k m.machine) ≡ u → undone (k + n) m ≡ next (undone n) (undone k m)
    by true true e f =
        let both : can_go_back (k + n) m.machine ≡ true = can k n m.machine ∙ rw (e, f) refl in
        done_back (k + n) m both
        ∙ ap (λ machine. Ok (record m { machine = machine })) (back k n m.machine both)
        ∙ sym (ap (next (undone n)) (done_back k m e) ∙ done_back n (record m { machine = gone_back k m.machine }) f)
    by true false e f =
        let both : can_go_back (k + n) m.machine ≡ false = can k n m.machine ∙ rw (e, f) refl in
        cond-false _ _ _ both ∙ sym (ap (next (undone n)) (done_back k m e) ∙ cond-false _ _ _ f)
    by false u e f =
        let both : can_go_back (k + n) m.machine ≡ false = can k n m.machine ∙ rw (e) refl in
        cond-false _ _ _ both ∙ sym (ap (next (undone n)) (cond-false _ _ _ e))

-- redoing k and n changes at once is redoing k and then n
redone_sum : CanGoOnInParts (List Loaded) → GoesOnInParts (List Loaded) → (k n : ℕ) (m : Managed) → redone (k + n) m ≡ next (redone n) (redone k m)
redone_sum can on k n m = by (can_go_on k m.machine) (can_go_on n (gone_on k m.machine)) refl refl
  where
    by : (t u : Bool) → can_go_on k m.machine ≡ t → can_go_on n (gone_on k m.machine) ≡ u → redone (k + n) m ≡ next (redone n) (redone k m)
    by true true e f =
        let both : can_go_on (k + n) m.machine ≡ true = can k n m.machine ∙ rw (e, f) refl in
        done_on (k + n) m both
        ∙ ap (λ machine. Ok (record m { machine = machine })) (on k n m.machine both)
        ∙ sym (ap (next (redone n)) (done_on k m e) ∙ done_on n (record m { machine = gone_on k m.machine }) f)
    by true false e f =
        let both : can_go_on (k + n) m.machine ≡ false = can k n m.machine ∙ rw (e, f) refl in
        cond-false _ _ _ both ∙ sym (ap (next (redone n)) (done_on k m e) ∙ cond-false _ _ _ f)
    by false u e f =
        let both : can_go_on (k + n) m.machine ≡ false = can k n m.machine ∙ rw (e) refl in
        cond-false _ _ _ both ∙ sym (ap (next (redone n)) (cond-false _ _ _ e))

pub steps-add : CanGoBackInParts (List Loaded) → GoesBackInParts (List Loaded) → CanGoOnInParts (List Loaded) → GoesOnInParts (List Loaded) → StepsAdd
steps-add can_back back can_on on some more m = (undone_sum can_back back some more m, redone_sum can_on on some more m)

-- redoing what was undone gives the manager back
redone-undone : LengthsAfterBack (List Loaded) → OnAfterBack (List Loaded) → (n : ℕ) (m : Managed) → IfOk (undone n m) (λ after. redone n after ≡ Ok m)
redone-undone lengths returns n m = by (can_go_back n m.machine) refl
  where
    by : (t : Bool) → can_go_back n m.machine ≡ t
        → IfOk (cond {A = Result Managed Refusal} t (Ok (record m { machine = gone_back n m.machine })) (Err (plain NothingToUndo))) (λ after. redone n after ≡ Ok m)
    by true e =
        let more = (lengths n m.machine e).1 in
        let can : can_go_on n (gone_back n m.machine) ≡ true = le-leb n (length (gone_back n m.machine).later) (omega (arith)) in
        done_on n (record m { machine = gone_back n m.machine }) can ∙ ap (λ machine. Ok (record m { machine = machine })) (returns n m.machine e)
    by false e = tt

-- undoing what was redone gives the manager back
undone-redone : LengthsAfterOn (List Loaded) → BackAfterOn (List Loaded) → (n : ℕ) (m : Managed) → IfOk (redone n m) (λ after. undone n after ≡ Ok m)
undone-redone lengths returns n m = by (can_go_on n m.machine) refl
  where
    by : (t : Bool) → can_go_on n m.machine ≡ t
        → IfOk (cond {A = Result Managed Refusal} t (Ok (record m { machine = gone_on n m.machine })) (Err (plain NothingToRedo))) (λ after. undone n after ≡ Ok m)
    by true e =
        let more = (lengths n m.machine e).0 in
        let can : can_go_back n (gone_on n m.machine) ≡ true = le-leb n (length (gone_on n m.machine).earlier) (omega (arith)) in
        done_back n (record m { machine = gone_on n m.machine }) can ∙ ap (λ machine. Ok (record m { machine = machine })) (returns n m.machine e)
    by false e = tt

pub steps-return : LengthsAfterBack (List Loaded) → OnAfterBack (List Loaded) → LengthsAfterOn (List Loaded) → BackAfterOn (List Loaded) → StepsReturn
steps-return lengths_back on_after_back lengths_on back_after_on n m = (redone-undone lengths_back on_after_back n m, undone-redone lengths_on back_after_on n m)

-- lines none of which is flagged are lines without flags
unflagged : (ls : List (List ℕ)) (flags : List Bool) → NoneFlagged flags → flagged ls flags ≡ flagged ls []
unflagged [] flags none = refl
unflagged (l ∷ ls) [] none = refl
unflagged (l ∷ ls) (flag ∷ flags) (is, none) =
    ap (λ f. (l, f) ∷ flagged ls flags) is ∙ ap (λ rest. (l, false) ∷ rest) (unflagged ls flags none)

-- two runs without flags give the same replies
pub pieces-no-reply : PiecesChangeNoReply
pieces-no-reply files begin input some others none nor =
    ap (replies_to files begin) (unflagged (lines input) some none ∙ sym (unflagged (lines input) others nor))
