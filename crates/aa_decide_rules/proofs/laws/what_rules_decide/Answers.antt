use Rattle.aa_decide_rules.proofs.VerdictLemmas.{verdict-allow, verdict-complain, verdict-deny, verdict-order}
use Rattle.std.proofs.Common.{ap}
use Rattle.aa_decide_rules.specs.LogLines.{log_line}
use Rattle.aa_decide_rules.proofs.laws.what_rules_decide.Goals as goal

pub returns-clause-complain_mode_lets_through_and_logs : goal.returns-clause-complain_mode_lets_through_and_logs
returns-clause-complain_mode_lets_through_and_logs c = verdict-complain

pub returns-clause-order_changes_no_verdict : goal.returns-clause-order_changes_no_verdict
returns-clause-order_changes_no_verdict c = verdict-order

pub returns-clause-allow_rule_leaves_what_is_allowed : goal.returns-clause-allow_rule_leaves_what_is_allowed
returns-clause-allow_rule_leaves_what_is_allowed c = verdict-allow

pub returns-clause-deny_rule_allows_nothing_new : goal.returns-clause-deny_rule_allows_nothing_new
returns-clause-deny_rule_allows_nothing_new c = verdict-deny

pub returns-clause-order_changes_no_line : goal.returns-clause-order_changes_no_line
returns-clause-order_changes_no_line c asker mediation flag rules others request same = ap (log_line asker request) (verdict-order mediation flag rules others request same)
