use Rattle.std.proofs.Common.{◌≡◌, length}
use Rattle.aatry_diff.specs.NewlyLeftOut.{has_name}
use Rattle.aatry_policy.specs.SeenLeftOut.{all_left_out}
use Rattle.aatry_diff.proofs.newly.has_name.Given as goal

-- no file so far has the name
abbrev pub invariant-loop-rest : goal.invariant-loop-rest
invariant-loop-rest l = has_name (all_left_out l.rest) l.name ≡ has_name (all_left_out l.files) l.name

abbrev pub decreases-loop-rest : goal.decreases-loop-rest
decreases-loop-rest l = length l.rest
