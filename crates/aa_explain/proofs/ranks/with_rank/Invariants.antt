use Rattle.std.proofs.Common.{◌≡◌, length}
use Rattle.aa_explain.specs.Candidates.{with_rank}
use Rattle.aa_explain.proofs.ranks.with_rank.Given as goal

-- none of the patterns so far has it
abbrev pub invariant-loop-rest : goal.invariant-loop-rest
invariant-loop-rest l = with_rank l.best l.path l.rest ≡ with_rank l.best l.path l.patterns

abbrev pub decreases-loop-rest : goal.decreases-loop-rest
decreases-loop-rest l = length l.rest
