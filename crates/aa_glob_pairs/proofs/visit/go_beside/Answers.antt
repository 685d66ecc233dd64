use Rattle.std.proofs.Common.{[], ◌∷◌}
use Rattle.aa_glob_pairs.proofs.GoLemmas.{go_beside_more}
use Rattle.aa_glob_pairs.proofs.visit.go_beside.Goals as goal

pub loop-other-preserved : goal.loop-other-preserved
loop-other-preserved c =
    go_beside_more c.args.waiting.now c.loop-other.waiting c.go_if_shared.new.waiting (c.args.step.now ∷ []) c.args.second.now c.loop-other.other-index _ c.loop-other-test.true c.loop-other.invariant c.in_ok-go_if_shared.ensures
