use Rattle.std.proofs.Common.{◌≡◌, length}
use Rattle.aatry_changes.specs.PartChanges.{seen_changes}
use Rattle.aatry_changes.specs.code.Steps.{gathered_changes}
use Rattle.aatry_changes.proofs.folded.add_changes.Given as goal

-- the changes so far, with those that are left behind them, are all
abbrev pub invariant-loop-rest : goal.invariant-loop-rest
invariant-loop-rest l =
    gathered_changes l.sharing (seen_changes l.rest) ≡ gathered_changes l.initial.sharing (seen_changes l.changes)

abbrev pub decreases-loop-rest : goal.decreases-loop-rest
decreases-loop-rest l = length l.rest
