use Rattle.aatry_log_rules.proofs.LawLemmas.{served}
use Rattle.aatry_log_rules.proofs.laws.what_told_rules_let.Goals as goal

pub returns : goal.returns
returns c = served c.what_joined_requests_let.ensures.its_rule_lets_each c.what_texts_tell.ensures
