use Rattle.aa_explain_paths.proofs.RelevantLemmas.{relevant-decide}
use Rattle.aa_explain_paths.proofs.laws.relevant_rules_decide.Goals as goal

pub returns : goal.returns
returns c = relevant-decide
