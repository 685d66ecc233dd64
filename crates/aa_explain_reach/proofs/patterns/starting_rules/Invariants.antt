use Rattle.std.proofs.Common.{◌≡◌, take}
use Rattle.aa_explain_reach.specs.Patterns.{starting_rules}
use Rattle.aa_explain_reach.proofs.patterns.starting_rules.Given as goal

abbrev pub invariant-loop-rule : goal.invariant-loop-rule
invariant-loop-rule l = l.kept.items ≡ starting_rules (take l.rule-index l.rules)
