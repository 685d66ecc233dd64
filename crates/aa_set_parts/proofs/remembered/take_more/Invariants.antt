use Rattle.std.proofs.Common.{◌≡◌, ◌+◌, length, sum_by}
use Rattle.aa_set_parts.proofs.remembered.take_more.Given as goal

-- what is left, and what the rest takes: all that is allowed, less what those before take
abbrev pub invariant-loop-rest : goal.invariant-loop-rest
invariant-loop-rest l = l.left + sum_by (λ asker. asker.bytes) l.askers ≡ l.most + sum_by (λ asker. asker.bytes) l.rest

abbrev pub decreases-loop-rest : goal.decreases-loop-rest
decreases-loop-rest l = length l.rest
