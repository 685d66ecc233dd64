use Rattle.std.proofs.Common.{◌≡◌, length, map}
use Rattle.aatry_claims.specs.Found.{seen_found}
use Rattle.aatry_claims.specs.Telling.{has_undecided}
use Rattle.aatry_claims.proofs.telling.has_undecided.Given as goal

-- none so far decides: the others do
abbrev pub invariant-loop-rest : goal.invariant-loop-rest
invariant-loop-rest l = has_undecided (map seen_found l.rest) ≡ has_undecided (map seen_found l.found)

abbrev pub decreases-loop-rest : goal.decreases-loop-rest
decreases-loop-rest l = length l.rest
