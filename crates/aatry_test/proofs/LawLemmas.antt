-- What holds of transcripts that are accepted, and of those that aren't to be.
use Rattle.std.proofs.Common.{◌≡◌, ◌∙◌, ◌&&◌, ◌||◌, ◌==◌, ℕ, Bool, true, false, List, [], ◌∷◌, ◌++◌, ap, ap₂, inl, inr, refl, sym, true≢false}
use Rattle.std.specs.List.{filter, list_any}
use Rattle.std.specs.Prelude.{if◌then◌else◌}
use Rattle.std.proofs.lemmas.Bool.{and_parts, cases_Bool, eqb-true}
use Rattle.aa_set.specs.Run.{output}
use Rattle.aa_set_commands.specs.Lines.{lines}
use Rattle.aa_set_manager.specs.Manager.{new_manager_in}
use Rattle.aatry_transcripts.proofs.PassLemmas.{asks_the_same, kind-stays, passes_then}
use Rattle.aatry_transcripts.specs.Accepting.{accepted_text, can_be_accepted}
use Rattle.aatry_transcripts.specs.Meeting.{are_met}
use Rattle.aatry_transcripts.specs.Transcripts.{input_of, is_assertion, is_command, is_note, is_wanted, transcript_lines, wanted_in}
use Rattle.aa_start.specs.Known.{Known}
use Rattle.aatry_test.proofs.HoldLemmas.{depend_on_steps}
use Rattle.aatry_test.specs.AssertionLaws.{is_step}
use Rattle.aatry_test.specs.Running.{Asserted, nothing_asserted}
use Rattle.aatry_test.specs.Differences.{comparison, passes}
use Rattle.aatry_test.specs.Laws.{AcceptedPass, NothingIsReplaced}
use Rattle.aatry_test.specs.Tests.{Accepted, Failed, Passed, is_accepted, outcome_of, replaced_of, says_memory, told_for}

-- a transcript that was accepted could be, its assertions hold, and its text is the one that it becomes
accepted_so : (accept : Bool) (transcript text : List ℕ) (told : List (List ℕ)) (asserted : Asserted) → Accepted text ≡ outcome_of accept transcript told asserted
    → (can_be_accepted (transcript_lines transcript) told ≡ true) × (asserted.failing ≡ 0) × (text ≡ accepted_text transcript told)
accepted_so accept transcript text told asserted is =
    by (passes (transcript_lines transcript) told asserted) (is_accepted accept transcript told asserted) refl is
  where
    by : (met accepted : Bool) → is_accepted accept transcript told asserted ≡ accepted
        → Accepted text ≡ (if met then Passed else if accepted then Accepted (accepted_text transcript told) else Failed)
        → (can_be_accepted (transcript_lines transcript) told ≡ true) × (asserted.failing ≡ 0) × (text ≡ accepted_text transcript told)
    by true accepted so is = absurd (cc)
    by false true so is =
        let can = and_parts (can_be_accepted (transcript_lines transcript) told) (asserted.failing == 0)
        (and_parts accept (can_be_accepted (transcript_lines transcript) told && asserted.failing == 0) so).1 in
        (can.0, eqb-true asserted.failing 0 can.1, cc)
    by false false so is = absurd (cc)

-- a command or an assertion is wanted of no reply
step-unwanted : (line : List ℕ) → is_step line ≡ true → is_wanted line ≡ false
step-unwanted line step = elim (cases_Bool (is_command line)) [
  | inl command ↦ rw command refl
  | inr other ↦
      let assertion = later (is_command line) (is_assertion line) other step in
      rw (other, assertion, or-true (is_note line)) refl
]
  where
    later : (a b : Bool) → a ≡ false → (a || b) ≡ true → b ≡ true
    later true b p q = absurd (true≢false p)
    later false b p q = q

    or-true : (b : Bool) → (b || true) ≡ true
    or-true true = refl
    or-true false = refl

pub accepted_pass : AcceptedPass
accepted_pass language files accept again path transcript text shown tested =
    let manager = new_manager_in language false in
    let written = output files manager (input_of (transcript_lines transcript)) tested.flags in
    let told = lines written in
    let so = accepted_so accept transcript text told tested.assertions tested.decided in
    let becomes : text ≡ accepted_text transcript told = so.2 in
    let asked : input_of (transcript_lines text) ≡ input_of (transcript_lines transcript) =
    ap (λ t. input_of (transcript_lines t)) becomes ∙ asks_the_same transcript written so.0 in
    let same : told_for language files text tested.flags ≡ told = ap (λ input. lines (output files manager input tested.flags)) asked in
    let met : are_met (wanted_in (transcript_lines text)) (told_for language files text tested.flags) ≡ true =
    ap (are_met (wanted_in (transcript_lines text))) same ∙ ap (λ t. are_met (wanted_in (transcript_lines t)) told) becomes ∙ passes_then transcript written so.0 in
    let steps : filter is_step (transcript_lines text) ≡ filter is_step (transcript_lines transcript) =
    ap (λ t. filter is_step (transcript_lines t)) becomes ∙ kind-stays is_step step-unwanted transcript written so.0 in
    let hold = depend_on_steps language files path (transcript_lines transcript) (transcript_lines text) tested.assertions tested.asserted so.1 steps in (
      comparison (is_accepted again text (told_for language files text tested.flags) nothing_asserted) path (transcript_lines text) (told_for language files text tested.flags)
          nothing_asserted,
      record {
        flags = tested.flags;
        answered = ap (list_any says_memory) same ∙ tested.answered;
        assertions = nothing_asserted;
        asserted = hold;
        decided = sym (passed (is_accepted again text (told_for language files text tested.flags) nothing_asserted)
            (accepted_text text (told_for language files text tested.flags)) met);
        told = refl;
      },
    )
  where
    passed : {met : Bool} (accepted : Bool) (other : List ℕ) → met ≡ true
        → (if met && nothing_asserted.failing == 0 then Passed else if accepted then Accepted other else Failed) ≡ Passed
    passed accepted other is = rw is refl

-- nothing is replaced by a transcript that isn't to be accepted
unaccepted : (path transcript : List ℕ) (told : List (List ℕ)) (asserted : Asserted) → replaced_of path (outcome_of false transcript told asserted) ≡ []
unaccepted path transcript told asserted = by (passes (transcript_lines transcript) told asserted)
  where
    by : (met : Bool) → replaced_of path (if met then Passed else Failed) ≡ []
    by true = refl
    by false = refl

pub nothing_is_replaced : (known : Known) → NothingIsReplaced known
nothing_is_replaced known language files [] came tests = ap (λ c. c.replaced) tests
nothing_is_replaced known language files (path ∷ paths) came tests =
    let first = tests.0 in
    let tested = tests.3 in
    let none : first.replaced ≡ [] = tested.5 ∙ ap (replaced_of path) tested.3.decided ∙ unaccepted path tested.0 (told_for language files tested.0 tested.3.flags) tested.3.assertions in
    ap (λ c. c.replaced) tests.2 ∙ ap₂ (λ a b. a ++ b) none (nothing_is_replaced known language files paths tests.1 tests.4)
