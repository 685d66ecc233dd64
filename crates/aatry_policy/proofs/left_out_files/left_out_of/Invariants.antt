use Rattle.std.proofs.Common.{◌≡◌, ◌++◌, length, map}
use Rattle.aatry_folder.specs.Loadings.{file_names, seen_top}
use Rattle.aatry_policy.specs.LeftOut.{left_out_of}
use Rattle.aatry_policy.specs.SeenLeftOut.{all_left_out}
use Rattle.aatry_policy.proofs.left_out_files.left_out_of.Given as goal

-- the files so far, with those of what is left, are all
abbrev pub invariant-loop-rest : goal.invariant-loop-rest
invariant-loop-rest l =
    all_left_out l.files.items ++ left_out_of (file_names (map seen_top l.rest)) l.left
    ≡ left_out_of (file_names (map seen_top l.top)) l.outcomes

abbrev pub decreases-loop-rest : goal.decreases-loop-rest
decreases-loop-rest l = length l.rest
