use Rattle.std.proofs.Common.{◌≡◌, length, map}
use Rattle.aatry_never_exec.specs.Telling.{has_many}
use Rattle.aatry_reach.specs.Finding.{seen_found}
use Rattle.aatry_never_exec.proofs.telling.has_many.Given as goal

-- none so far decides: the others do
abbrev pub invariant-loop-rest : goal.invariant-loop-rest
invariant-loop-rest l = has_many (map seen_found l.rest) ≡ has_many (map seen_found l.found)

abbrev pub decreases-loop-rest : goal.decreases-loop-rest
decreases-loop-rest l = length l.rest
