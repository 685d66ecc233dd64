use Rattle.std.proofs.Common.{◌≡◌, ◌++◌, drop, flat_map}
use Rattle.aatry_session_told.specs.Differing.{difference_of}
use Rattle.aatry_session_told.specs.SeenDifferences.{seen_differences}
use Rattle.aatry_session_told.proofs.differing.push_each.Given as goal

-- those so far, with those of the files that are left, are all
abbrev pub invariant-loop-place : goal.invariant-loop-place
invariant-loop-place l =
    seen_differences l.found.items ++ flat_map (difference_of l.side l.others) (drop l.place l.files)
    ≡ seen_differences l.initial.found.items ++ flat_map (difference_of l.side l.others) l.files
