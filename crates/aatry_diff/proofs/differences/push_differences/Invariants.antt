use Rattle.std.proofs.Common.{◌≡◌, ◌++◌, length}
use Rattle.aatry_diff.specs.Differences.{told_differences}
use Rattle.aatry_diff.specs.Folders.{seen_folders}
use Rattle.aatry_diff.specs.SeenDifferences.{seen_differences}
use Rattle.aatry_diff.proofs.differences.push_differences.Given as goal

-- the text so far, with what is told of the questions that are left, is all
abbrev pub invariant-loop-rest : goal.invariant-loop-rest
invariant-loop-rest l =
    let text = told_differences l.teller.form (seen_folders l.folders) in
    l.out.items ++ text (seen_differences l.rest) ≡ l.initial.out.items ++ text (seen_differences l.differences)

abbrev pub decreases-loop-rest : goal.decreases-loop-rest
decreases-loop-rest l = length l.rest
