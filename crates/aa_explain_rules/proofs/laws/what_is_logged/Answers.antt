use Rattle.aa_explain_rules.proofs.LoggedLemmas.{is-logged}
use Rattle.aa_explain_rules.proofs.laws.what_is_logged.Goals as goal

pub returns : goal.returns
returns c mode flag request rules = is-logged flag request rules mode
