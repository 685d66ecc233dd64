use Rattle.aa_explain_rules.proofs.JoinedLemmas.{first-within, lets-each, none-denied, second-within, whole-lacks, within-stays}
use Rattle.aa_explain_rules.proofs.joining_laws.what_joined_requests_let.Goals as goal

pub returns-clause-first_is_within : goal.returns-clause-first_is_within
returns-clause-first_is_within c = first-within

pub returns-clause-second_is_within : goal.returns-clause-second_is_within
returns-clause-second_is_within c = second-within

pub returns-clause-within_stays : goal.returns-clause-within_stays
returns-clause-within_stays c = within-stays

pub returns-clause-none_is_denied : goal.returns-clause-none_is_denied
returns-clause-none_is_denied c = none-denied

pub returns-clause-whole_lacks : goal.returns-clause-whole_lacks
returns-clause-whole_lacks c = whole-lacks

pub returns-clause-its_rule_lets_each : goal.returns-clause-its_rule_lets_each
returns-clause-its_rule_lets_each c = lets-each c.what_a_missing_rule_lets.ensures.it_lets_the_request
