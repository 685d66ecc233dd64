use Rattle.std.proofs.Common.{◌≡◌, ◌∙◌, ◌+◌, ◌++◌, ap, append_assoc, false, refl, subst, sym, true}
use Rattle.aatry_test.specs.Asserting.{IsAsserted}
use Rattle.aatry_test.specs.Headings.{heading}
use Rattle.aatry_test.specs.Running.{nothing_asserted, seen_asserted}
use Rattle.aatry_test.proofs.RunningLemmas.{and-nothing, with-text}
use Rattle.aatry_transcripts.specs.Transcripts.{assertion_in}
use Rattle.aatry_test.proofs.running.push_asserted.Goals as goal

-- an assertion that holds adds nothing
pub returns-then-branch-clause-told : goal.returns-then-branch-clause-told
returns-then-branch-clause-told c =
    let language = c.args.run.language in
    let files = c.args.run.files.now in
    let set = c.args.manager.now.machine.now in
    let came = c.in_ok-push_assertion.ensures in
    let asked : IsAsserted language files set (assertion_in c.args.line.now) true came.0 =
    subst (λ holds. IsAsserted language files set (assertion_in c.args.line.now) holds came.0) c.if-branch.true
    (subst (λ text. IsAsserted language files set text c.in_ok-push_assertion.field-0 came.0) c.assertion_in.ensures
    (subst (λ s. IsAsserted language files s c.assertion_in.result.now c.in_ok-push_assertion.field-0 came.0) c.policy_set-set.ensures came.2)) in (
      nothing_asserted,
      sym (and-nothing (seen_asserted c.args.all.now)),
      record { holds = true; told = came.0; asked = asked; comes = refl; stays = refl },
    )

-- and one that doesn't its heading, and what is told of it
pub returns-clause-told : goal.returns-clause-told
returns-clause-told c =
    let language = c.args.run.language in
    let files = c.args.run.files.now in
    let set = c.args.manager.now.machine.now in
    let came = c.in_ok-push_assertion.ensures in
    let before = c.args.all.now.text.items in
    let above = heading c.args.run.path.now c.args.number c.args.line.now in
    let asked : IsAsserted language files set (assertion_in c.args.line.now) false came.0 =
    subst (λ holds. IsAsserted language files set (assertion_in c.args.line.now) holds came.0) c.if-branch.false
    (subst (λ text. IsAsserted language files set text c.in_ok-push_assertion.field-0 came.0) c.assertion_in.ensures
    (subst (λ s. IsAsserted language files s c.assertion_in.result.now c.in_ok-push_assertion.field-0 came.0) c.policy_set-set.ensures came.2)) in
    let told : c.deref.result.now ≡ came.0 = c.deref.ensures.value ∙ came.1 ∙ ap (λ front. front ++ came.0) c.new-told.ensures.items in
    let front = c.in_ok-push_heading.ensures in
    let all : c.extend_from_slice.new.self.items ≡ before ++ (above ++ came.0) =
    c.in_ok-extend_from_slice.ensures.items ∙ (λ i. front i ++ told i) ∙ append_assoc before above came.0 in (
      with-text (above ++ came.0) 1,
      ap (λ text. with-text text (c.args.all.now.failing + 1)) all,
      record { holds = false; told = came.0; asked = asked; comes = refl; stays = refl },
    )
