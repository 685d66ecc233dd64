use Rattle.aa_explain_changes.proofs.DecideLemmas.{changed-decide}
use Rattle.aa_explain_changes.proofs.laws.changed_rules_decide.Goals as goal

pub returns : goal.returns
returns c = changed-decide c.what_rules_decide.ensures.order_changes_no_verdict
