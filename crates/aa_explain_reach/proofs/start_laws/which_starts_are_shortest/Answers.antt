use Rattle.aa_explain_reach.proofs.ShortestLemmas.{starts-shortest}
use Rattle.aa_explain_reach.proofs.start_laws.which_starts_are_shortest.Goals as goal

pub returns : goal.returns
returns c = starts-shortest
