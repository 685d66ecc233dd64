use Rattle.std.proofs.Common.{◌≡◌, ◌++◌, length}
use Rattle.aatry_diff_paths.specs.Telling.{others_told}
use Rattle.aatry_diff_paths.proofs.told_others.push_others.Given as goal

-- what was told so far, with what is told of those that are left, is all
abbrev pub invariant-loop-rest : goal.invariant-loop-rest
invariant-loop-rest l =
    l.out.items ++ others_told l.teller.form l.name l.rest ≡ l.initial.out.items ++ others_told l.teller.form l.name l.changes

abbrev pub decreases-loop-rest : goal.decreases-loop-rest
decreases-loop-rest l = length l.rest
