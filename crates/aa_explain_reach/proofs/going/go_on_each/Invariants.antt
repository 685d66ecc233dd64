use Rattle.std.proofs.Common.{◌≡◌, ◌++◌, List, length}
use Rattle.std.specs.Prelude.{Option}
use Rattle.aa_decide.specs.Exec.{Asker}
use Rattle.aa_explain_reach.specs.code.Going.{AreIn, GoesOn, seen_starters}
use Rattle.aa_explain_reach.proofs.going.go_on_each.Given as goal

-- the starts by the first of them were gone on to
abbrev pub invariant-loop-rest : goal.invariant-loop-rest
invariant-loop-rest l = record {
  left : AreIn l.slots l.rest;
  gone : (done : List (Option Asker)) × (done ++ seen_starters l.rest ≡ seen_starters l.starters)
      × GoesOn l.slots l.limit l.from done l.initial.nodes.items l.nodes.items l.initial.unknown.items l.unknown.items;
}

abbrev pub decreases-loop-rest : goal.decreases-loop-rest
decreases-loop-rest l = length l.rest
