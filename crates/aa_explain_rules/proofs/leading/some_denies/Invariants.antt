use Rattle.std.proofs.Common.{◌≡◌, false, length}
use Rattle.aa_decide_rules.specs.Choices.{denies}
use Rattle.aa_explain_rules.specs.Leading.{says}
use Rattle.aa_explain_rules.specs.code.Among.{some_among}
use Rattle.aa_explain_rules.proofs.leading.some_denies.Given as goal

-- none of the rules so far does
abbrev pub invariant-loop-rest : goal.invariant-loop-rest
invariant-loop-rest l = let test = says denies false l.owned l.path in some_among test l.rules l.rest ≡ some_among test l.rules l.places

abbrev pub decreases-loop-rest : goal.decreases-loop-rest
decreases-loop-rest l = length l.rest
