use Rattle.std.proofs.Common.{◌≡◌, length}
use Rattle.aatry_path_changes.specs.Others.{has_lost}
use Rattle.aatry_path_changes.proofs.others.has_lost.Given as goal

-- none so far decides: the others do
abbrev pub invariant-loop-rest : goal.invariant-loop-rest
invariant-loop-rest l = has_lost l.rest ≡ has_lost l.changes

abbrev pub decreases-loop-rest : goal.decreases-loop-rest
decreases-loop-rest l = length l.rest
