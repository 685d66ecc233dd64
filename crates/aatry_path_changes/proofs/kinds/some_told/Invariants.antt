use Rattle.std.proofs.Common.{◌≡◌, length}
use Rattle.aatry_path_changes.specs.Kinds.{some_told}
use Rattle.aatry_path_changes.proofs.kinds.some_told.Given as goal

-- none so far decides: the others do
abbrev pub invariant-loop-rest : goal.invariant-loop-rest
invariant-loop-rest l = some_told l.rest ≡ some_told l.changes

abbrev pub decreases-loop-rest : goal.decreases-loop-rest
decreases-loop-rest l = length l.rest
