use Rattle.std.proofs.Common.{◌≡◌, ◌+◌, length, sum_by}
use Rattle.aa_set_parts.proofs.remembered.Remembered.bytes.Given as goal

-- what those before take, and what the rest takes
abbrev pub invariant-loop-rest : goal.invariant-loop-rest
invariant-loop-rest l = l.bytes + sum_by (λ asker. asker.bytes) l.rest ≡ sum_by (λ asker. asker.bytes) l.self.askers.items

abbrev pub decreases-loop-rest : goal.decreases-loop-rest
decreases-loop-rest l = length l.rest
