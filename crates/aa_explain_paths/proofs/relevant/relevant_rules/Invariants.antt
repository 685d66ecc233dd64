use Rattle.std.proofs.Common.{◌≡◌, take}
use Rattle.aa_explain_paths.specs.Relevant.{relevant_rules}
use Rattle.aa_explain_paths.proofs.relevant.relevant_rules.Given as goal

abbrev pub invariant-loop-rule : goal.invariant-loop-rule
invariant-loop-rule l = l.kept.items ≡ relevant_rules l.letters.0 l.whose (take l.rule-index l.rules)
