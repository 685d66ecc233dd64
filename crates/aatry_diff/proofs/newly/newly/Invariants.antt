use Rattle.std.proofs.Common.{◌≡◌, ◌++◌, length}
use Rattle.aatry_diff.specs.NewlyLeftOut.{newly}
use Rattle.aatry_policy.specs.SeenLeftOut.{all_left_out}
use Rattle.aatry_diff.proofs.newly.newly.Given as goal

-- the files so far, with those of what is left, are all
abbrev pub invariant-loop-rest : goal.invariant-loop-rest
invariant-loop-rest l =
    all_left_out l.files.items ++ newly (all_left_out l.old) (all_left_out l.rest) ≡ newly (all_left_out l.old) (all_left_out l.new)

abbrev pub decreases-loop-rest : goal.decreases-loop-rest
decreases-loop-rest l = length l.rest
