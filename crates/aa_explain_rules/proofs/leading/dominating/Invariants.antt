use Rattle.std.proofs.Common.{◌≡◌, ◌++◌, false, length}
use Rattle.aa_decide_rules.specs.Choices.{dominates}
use Rattle.aa_explain_rules.specs.Leading.{says}
use Rattle.aa_explain_rules.specs.code.Among.{among}
use Rattle.aa_explain_rules.proofs.leading.dominating.Given as goal

-- the places so far, and those of the rest, are all
abbrev pub invariant-loop-rest : goal.invariant-loop-rest
invariant-loop-rest l = let test = says (dominates l.rank) false l.owned l.path in l.found.items ++ among test l.rules l.rest ≡ among test l.rules l.places

abbrev pub decreases-loop-rest : goal.decreases-loop-rest
decreases-loop-rest l = length l.rest
