use Rattle.aa_explain_rules.proofs.DecidingLemmas.{none-allowed, none-denied, told-decide}
use Rattle.aa_explain_rules.proofs.laws.what_told_rules_decide.Goals as goal

pub returns-clause-told_rules_decide_alone : goal.returns-clause-told_rules_decide_alone
returns-clause-told_rules_decide_alone c = told-decide

pub returns-clause-nothing_is_denied_without_those_that_deny : goal.returns-clause-nothing_is_denied_without_those_that_deny
returns-clause-nothing_is_denied_without_those_that_deny c = none-denied

pub returns-clause-nothing_is_allowed_without_those_that_allow : goal.returns-clause-nothing_is_allowed_without_those_that_allow
returns-clause-nothing_is_allowed_without_those_that_allow c = none-allowed
