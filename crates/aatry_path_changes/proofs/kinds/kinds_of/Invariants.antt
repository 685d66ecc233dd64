use Rattle.std.proofs.Common.{◌≡◌, ◌++◌, length, map}
use Rattle.aatry_path_changes.specs.Finding.{seen_found}
use Rattle.aatry_path_changes.specs.Kinds.{kinds_of}
use Rattle.aatry_path_changes.proofs.kinds.kinds_of.Given as goal

-- those so far, with those of what is left, are all
abbrev pub invariant-loop-rest : goal.invariant-loop-rest
invariant-loop-rest l = l.kinds.items ++ kinds_of (map seen_found l.rest) ≡ kinds_of (map seen_found l.found)

abbrev pub decreases-loop-rest : goal.decreases-loop-rest
decreases-loop-rest l = length l.rest
