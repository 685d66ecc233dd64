use Rattle.std.proofs.Common.{◌≡◌, length}
use Rattle.aa_decide_rules.specs.Choices.{first_lead}
use Rattle.aa_decide_rules.specs.code.SeenRules.{seen_rules}
use Rattle.aa_decide_rules.proofs.choice.first_lead.Given as goal

-- none of the rules so far does
abbrev pub invariant-loop-rest : goal.invariant-loop-rest
invariant-loop-rest l = first_lead l.rank (seen_rules l.rest) ≡ first_lead l.rank (seen_rules l.rules)

abbrev pub decreases-loop-rest : goal.decreases-loop-rest
decreases-loop-rest l = length l.rest
