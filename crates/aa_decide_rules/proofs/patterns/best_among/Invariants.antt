use Rattle.std.proofs.Common.{◌≡◌, length}
use Rattle.aa_decide_rules.specs.code.MatchingRanks.{best_among}
use Rattle.aa_decide_rules.proofs.patterns.best_among.Given as goal

-- the best so far and the others give what all do
abbrev pub invariant-loop-rest : goal.invariant-loop-rest
invariant-loop-rest l = best_among l.patterns l.best l.rest ≡ best_among l.patterns 0 l.places

abbrev pub decreases-loop-rest : goal.decreases-loop-rest
decreases-loop-rest l = length l.rest
