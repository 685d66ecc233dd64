-- Exec rules of the code as the definitions see them.
use Rattle.std.specs.Prelude.{List, map}
use Rattle.aa_decide_rules.specs.ExecRules.{Denying, ExecRule, Leading}
use Rattle.aa_decide_rules.specs.declared.exec_rules.ExecRule.{ExecRule as CodeRule}
use Rattle.aa_decide_rules.specs.declared.exec_rules.ExecRule.TheVariants as code

abbrev pub seen_rule : CodeRule → ExecRule
seen_rule (code.Denying audited) = Denying audited
seen_rule (code.Leading transition rank audited) = Leading transition.now rank audited

abbrev pub seen_rules : List CodeRule → List ExecRule
seen_rules rules = map seen_rule rules
