use Rattle.aa_explain_rules.proofs.JoinedLemmas.{allow-further}
use Rattle.aa_explain_rules.proofs.joining_laws.what_further_rules_let.Goals as goal

pub returns : goal.returns
returns c = allow-further
