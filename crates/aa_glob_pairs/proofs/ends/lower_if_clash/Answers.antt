use Rattle.aa_glob_pairs.proofs.LeastLemmas.{lower_clash}
use Rattle.aa_glob_pairs.proofs.ends.lower_if_clash.Goals as goal

pub returns-then-ending-other-2 : goal.returns-then-ending-other-2
returns-then-ending-other-2 c =
    lower_clash c.args.found.now c.lower_to.new.found c.args.ending.now c.args.other.now c.if-ending-other.true c.if-ending-other-2.true c.lower_to.ensures
