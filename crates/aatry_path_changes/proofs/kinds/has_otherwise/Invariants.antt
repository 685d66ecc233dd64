use Rattle.std.proofs.Common.{◌≡◌, length, map}
use Rattle.aatry_path_changes.specs.Finding.{seen_found}
use Rattle.aatry_path_changes.specs.Kinds.{has_otherwise}
use Rattle.aatry_path_changes.proofs.kinds.has_otherwise.Given as goal

-- none so far decides: the others do
abbrev pub invariant-loop-rest : goal.invariant-loop-rest
invariant-loop-rest l = has_otherwise (map seen_found l.rest) ≡ has_otherwise (map seen_found l.found)

abbrev pub decreases-loop-rest : goal.decreases-loop-rest
decreases-loop-rest l = length l.rest
