use Rattle.std.proofs.Common.{◌≡◌, ◌++◌, flat_map, length}
use Rattle.aatry_session_told.specs.Differing.{difference_line}
use Rattle.aatry_session_told.specs.SeenDifferences.{seen_differences}
use Rattle.aatry_session_told.proofs.differing.push_lines.Given as goal

-- the text so far, with the lines of the files that are left, is all
abbrev pub invariant-loop-rest : goal.invariant-loop-rest
invariant-loop-rest l =
    l.out.items ++ flat_map (difference_line l.base) (seen_differences l.rest)
    ≡ l.initial.out.items ++ flat_map (difference_line l.base) (seen_differences l.found)

abbrev pub decreases-loop-rest : goal.decreases-loop-rest
decreases-loop-rest l = length l.rest
