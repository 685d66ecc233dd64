use Rattle.std.proofs.Common.{◌≡◌, ◌++◌, length}
use Rattle.aa_decide_rules.specs.code.OwnedRules.{said_by_picked}
use Rattle.aa_decide_rules.specs.code.SeenRules.{seen_rules}
use Rattle.aa_decide_rules.proofs.exec_rules.exec_rules.Given as goal

-- what the rules so far say and what the others do is what all do
abbrev pub invariant-loop-rest : goal.invariant-loop-rest
invariant-loop-rest l = seen_rules l.said.items ++ said_by_picked l.flag l.owned l.rules l.rest ≡ said_by_picked l.flag l.owned l.rules l.places

abbrev pub decreases-loop-rest : goal.decreases-loop-rest
decreases-loop-rest l = length l.rest
