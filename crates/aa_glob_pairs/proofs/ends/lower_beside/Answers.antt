use Rattle.std.proofs.Common.{[], ◌∷◌}
use Rattle.aa_glob_pairs.proofs.LeastLemmas.{lower_beside_more}
use Rattle.aa_glob_pairs.proofs.ends.lower_beside.Goals as goal

pub loop-other-preserved : goal.loop-other-preserved
loop-other-preserved c =
    lower_beside_more c.args.found.now c.loop-other.found c.lower_if_clash.new.found (c.args.ending.now ∷ []) c.args.second.now c.loop-other.other-index _ c.loop-other-test.true
    c.loop-other.invariant c.lower_if_clash.ensures
