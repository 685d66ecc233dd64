use Rattle.std.proofs.Common.{◌≡◌, ◌++◌, flat_map, length}
use Rattle.aatry_changes.specs.PartChanges.{seen_changes}
use Rattle.aatry_changes.specs.Stat.{stat_change}
use Rattle.aatry_uncertain.specs.SeenHeads.{all_left_out}
use Rattle.aatry_changes.proofs.stat.push_each.Given as goal

-- the text so far, with what is told of the parts that are left, is all
abbrev pub invariant-loop-rest : goal.invariant-loop-rest
invariant-loop-rest l =
    let text = flat_map (stat_change l.teller.form (all_left_out l.left_out.heads.items)) in
    l.out.items ++ text (seen_changes l.rest) ≡ l.initial.out.items ++ text (seen_changes l.changes)

abbrev pub decreases-loop-rest : goal.decreases-loop-rest
decreases-loop-rest l = length l.rest
