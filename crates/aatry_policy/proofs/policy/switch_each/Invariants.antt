use Rattle.std.proofs.Common.{◌≡◌, length}
use Rattle.aatry_policy.specs.Policies.{switched}
use Rattle.aatry_policy.proofs.policy.switch_each.Given as goal

-- the changes so far, and those of the profiles that are left, make what all make
abbrev pub invariant-loop-rest : goal.invariant-loop-rest
invariant-loop-rest l = switched l.loading l.manager l.rest ≡ switched l.loading l.initial.manager l.names

abbrev pub decreases-loop-rest : goal.decreases-loop-rest
decreases-loop-rest l = length l.rest
