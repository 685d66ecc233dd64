use Rattle.std.proofs.Common.{◌-◌, ◌≤◌}
use Rattle.std.specs.Prelude.{Option}
use Rattle.aa_decide.specs.Exec.{Asker}
use Rattle.aa_explain_reach.specs.Reach.{AreReached}
use Rattle.aa_explain_reach.proofs.reach.go_on_all.Given as goal

-- the first nodes were gone on from
abbrev pub invariant-loop-left : goal.invariant-loop-left
invariant-loop-left l = record {
  within : l.left ≤ l.most;
  reached : (who : Option Asker) → AreReached l.slots who l.limit l.initial.nodes.items l.initial.unknown.items 0
      → AreReached l.slots who l.limit l.nodes.items l.unknown.items l.left;
}

abbrev pub decreases-loop-left : goal.decreases-loop-left
decreases-loop-left l = l.most - l.left
