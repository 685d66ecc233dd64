use Rattle.std.proofs.Common.{◌≡◌, ◌++◌, length}
use Rattle.aatry_policy.specs.SeenLeftOut.{all_left_out as all_files}
use Rattle.aatry_uncertain.specs.LeftOutHeads.{heads_in_files}
use Rattle.aatry_uncertain.specs.SeenHeads.{all_left_out}
use Rattle.aatry_uncertain.proofs.left_out.heads_in_files.Given as goal

-- the heads so far, with those of the files that are left, are all
abbrev pub invariant-loop-rest : goal.invariant-loop-rest
invariant-loop-rest l =
    all_left_out l.found.items ++ heads_in_files l.files (all_files l.rest) ≡ heads_in_files l.files (all_files l.left_out)

abbrev pub decreases-loop-rest : goal.decreases-loop-rest
decreases-loop-rest l = length l.rest
