use Rattle.aa_glob_pairs.proofs.LeastLemmas.{lower_more}
use Rattle.aa_glob_pairs.proofs.ends.lower.Goals as goal

pub loop-ending-preserved : goal.loop-ending-preserved
loop-ending-preserved c =
    lower_more c.args.found.now c.loop-ending.found c.lower_beside.new.found c.args.first.now c.loop-ending.ending-index _ c.args.second.now c.loop-ending-test.true
    c.loop-ending.invariant c.lower_beside.ensures
