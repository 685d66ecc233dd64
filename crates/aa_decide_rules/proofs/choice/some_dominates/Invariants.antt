use Rattle.std.proofs.Common.{◌≡◌, length}
use Rattle.std.specs.List.{list_any}
use Rattle.aa_decide_rules.specs.Choices.{dominates}
use Rattle.aa_decide_rules.specs.code.SeenRules.{seen_rules}
use Rattle.aa_decide_rules.proofs.choice.some_dominates.Given as goal

-- none of the rules so far does
abbrev pub invariant-loop-rest : goal.invariant-loop-rest
invariant-loop-rest l = list_any (dominates l.rank) (seen_rules l.rest) ≡ list_any (dominates l.rank) (seen_rules l.rules)

abbrev pub decreases-loop-rest : goal.decreases-loop-rest
decreases-loop-rest l = length l.rest
