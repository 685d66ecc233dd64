use Rattle.aa_explain_reach.proofs.ChainLemmas.{chains-end, none-unconfined}
use Rattle.aa_explain_reach.proofs.laws.what_is_not_reached.Goals as goal

pub returns-clause-chains : goal.returns-clause-chains
returns-clause-chains c = chains-end

pub returns-clause-unconfined : goal.returns-clause-unconfined
returns-clause-unconfined c = none-unconfined
