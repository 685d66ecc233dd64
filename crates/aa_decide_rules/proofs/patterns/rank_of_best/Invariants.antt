use Rattle.std.proofs.Common.{◌≡◌, length}
use Rattle.std.specs.Prelude.{fold}
use Rattle.aa_decide_rules.specs.Ranks.{best_rank, greater, rank}
use Rattle.aa_decide_rules.proofs.patterns.rank_of_best.Given as goal

-- the best so far and the others give that of all
abbrev pub invariant-loop-rest : goal.invariant-loop-rest
invariant-loop-rest l = fold (λ best pattern. greater best (rank l.path pattern)) l.best l.rest ≡ best_rank l.path l.patterns

abbrev pub decreases-loop-rest : goal.decreases-loop-rest
decreases-loop-rest l = length l.rest
