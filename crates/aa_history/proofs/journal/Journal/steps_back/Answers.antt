use Rattle.std.proofs.Common.{◌∙◌, ap, arith, length, sym}
use Rattle.aa_history.proofs.MachineLemmas.{back_in_parts, lengths_back}
use Rattle.aa_history.proofs.TimelineLemmas.{went_back, with_machine}
use Rattle.aa_history.proofs.journal.Journal.steps_back.Goals as goal

pub step_back-requires : goal.step_back-requires
step_back-requires g c =
    let m = c.args.self.now.machine in
    let step = c.loop-step._step in
    let left = (lengths_back step m (omega (arith, c.loop-step-test.true, c.requires))).0 in
    let same = ap (λ k. length k.machine.earlier) c.loop-step.invariant in
    omega (arith, c.loop-step-test.true, c.requires)

pub loop-step-preserved : goal.loop-step-preserved
loop-step-preserved g c =
    let m = c.args.self.now.machine in
    let step = c.loop-step._step in
    c.step_back.ensures ∙ went_back 1 c.loop-step.invariant
    ∙ sym (with_machine c.args.self.now (back_in_parts step 1 m (omega (arith, c.loop-step-test.true, c.requires))))
