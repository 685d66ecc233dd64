use Rattle.std.proofs.Common.{◌≡◌, ◌++◌, flat_map, length}
use Rattle.aa_explain_start_changes.specs.Starters.{seen_starters}
use Rattle.aatry_diff_paths.specs.Telling.{start_told}
use Rattle.aatry_diff_paths.proofs.told_starts.push_each.Given as goal

-- what was told so far, with what is told of those that are left, is all
abbrev pub invariant-loop-rest : goal.invariant-loop-rest
invariant-loop-rest l =
    l.out.items ++ flat_map (start_told l.teller.form l.name (seen_starters l.starters)) l.rest
    ≡ l.initial.out.items ++ flat_map (start_told l.teller.form l.name (seen_starters l.starters)) l.starts

abbrev pub decreases-loop-rest : goal.decreases-loop-rest
decreases-loop-rest l = length l.rest
