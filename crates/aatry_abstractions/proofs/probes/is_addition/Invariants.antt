use Rattle.std.proofs.Common.{◌≡◌, length}
use Rattle.aatry_abstractions.specs.Probes.{is_addition}
use Rattle.aatry_abstractions.proofs.probes.is_addition.Given as goal

-- what is left leads through one where all does
abbrev pub invariant-loop-rest : goal.invariant-loop-rest
invariant-loop-rest l = is_addition l.rest ≡ is_addition l.name

abbrev pub decreases-loop-rest : goal.decreases-loop-rest
decreases-loop-rest l = length l.rest
