use Rattle.std.proofs.Common.{◌≡◌, ◌++◌, drop, flat_map}
use Rattle.aa_set_answers.specs.RuleLines.{rule_line}
use Rattle.aa_set_answers.proofs.show.push_rules.Given as goal

-- the text so far, with the lines of what is left, is all
abbrev pub invariant-loop-rule : goal.invariant-loop-rule
invariant-loop-rule l = l.text.items ++ flat_map rule_line (drop l.rule-index l.rules) ≡ l.initial.text.items ++ flat_map rule_line l.rules
