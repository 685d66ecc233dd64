use Rattle.std.proofs.Common.{◌≡◌, length}
use Rattle.aatry_path_changes.specs.Starts.{has_lost_start}
use Rattle.aatry_path_changes.proofs.starts.has_lost_start.Given as goal

-- none of the starts so far is one
abbrev pub invariant-loop-rest : goal.invariant-loop-rest
invariant-loop-rest l = has_lost_start l.rest ≡ has_lost_start l.starts

abbrev pub decreases-loop-rest : goal.decreases-loop-rest
decreases-loop-rest l = length l.rest
