use Rattle.aa_glob_pairs.proofs.GoLemmas.{go_both_more}
use Rattle.aa_glob_pairs.proofs.visit.go_both.Goals as goal

pub loop-step-preserved : goal.loop-step-preserved
loop-step-preserved c =
    go_both_more c.args.waiting.now c.loop-step.waiting c.go_beside.new.waiting c.args.first.now c.loop-step.step-index _ c.args.second.now c.loop-step-test.true c.loop-step.invariant c.in_ok-go_beside.ensures
