use Rattle.std.proofs.Common.{◌≡◌, ◌++◌, length, map}
use Rattle.aatry_uncertain.specs.LeftOutHeads.{in_file}
use Rattle.aatry_uncertain.specs.SeenHeads.{all_left_out, seen_heads}
use Rattle.aatry_uncertain.proofs.left_out.push_heads.Given as goal

-- what was found, with the heads that are left, is all
abbrev pub invariant-loop-rest : goal.invariant-loop-rest
invariant-loop-rest l =
    all_left_out l.found.items ++ map (in_file l.file) (seen_heads l.rest) ≡ all_left_out l.initial.found.items ++ map (in_file l.file) (seen_heads l.heads)

abbrev pub decreases-loop-rest : goal.decreases-loop-rest
decreases-loop-rest l = length l.rest
