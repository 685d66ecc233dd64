use Rattle.std.proofs.Common.{◌≡◌, length}
use Rattle.aatry_policy.specs.Origins.{origin_in}
use Rattle.aatry_policy.proofs.origins.origin_in.Given as goal

-- no origin so far is that of the name
abbrev pub invariant-loop-rest : goal.invariant-loop-rest
invariant-loop-rest l = origin_in l.name l.rest ≡ origin_in l.name l.origins

abbrev pub decreases-loop-rest : goal.decreases-loop-rest
decreases-loop-rest l = length l.rest
