use Rattle.std.proofs.Common.{◌≡◌, ◌++◌, length, map}
use Rattle.aa_explain.specs.Candidates.{rank_of, seen_candidates}
use Rattle.aa_explain.proofs.candidates.ranks_of.Given as goal

-- the ranks so far, and those of the rest, are all
abbrev pub invariant-loop-rest : goal.invariant-loop-rest
invariant-loop-rest l = l.ranks.items ++ map (rank_of l.path) (seen_candidates l.rest) ≡ map (rank_of l.path) (seen_candidates l.candidates)

abbrev pub decreases-loop-rest : goal.decreases-loop-rest
decreases-loop-rest l = length l.rest
