use Rattle.aa_explain_reach.proofs.ChainLemmas.{nodes-end}
use Rattle.aa_explain_reach.proofs.laws.what_is_reached.Goals as goal

pub returns : goal.returns
returns c = nodes-end
