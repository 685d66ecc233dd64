use Rattle.std.proofs.Common.{◌∙◌, ap, arith, length, sym}
use Rattle.aa_history.proofs.MachineLemmas.{on_in_parts, lengths_on}
use Rattle.aa_history.proofs.TimelineLemmas.{went_on, with_machine}
use Rattle.aa_history.proofs.journal.Journal.steps_on.Goals as goal

pub step_on-requires : goal.step_on-requires
step_on-requires g c =
    let m = c.args.self.now.machine in
    let step = c.loop-step._step in
    let left = (lengths_on step m (omega (arith, c.loop-step-test.true, c.requires))).1 in
    let same = ap (λ k. length k.machine.later) c.loop-step.invariant in
    omega (arith, c.loop-step-test.true, c.requires)

pub loop-step-preserved : goal.loop-step-preserved
loop-step-preserved g c =
    let m = c.args.self.now.machine in
    let step = c.loop-step._step in
    c.step_on.ensures ∙ went_on 1 c.loop-step.invariant
    ∙ sym (with_machine c.args.self.now (on_in_parts step 1 m (omega (arith, c.loop-step-test.true, c.requires))))
