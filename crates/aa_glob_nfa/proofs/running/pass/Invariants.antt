use Rattle.std.proofs.Common.{◌≡◌, ◌-◌}
use Rattle.aa_glob_nfa.specs.OfTables.{graph_of}
use Rattle.aa_glob_nfa.specs.code.Passes.{IsPassing}
use Rattle.aa_glob_nfa.proofs.running.pass.Given as goal

abbrev pub invariant-loop-at : goal.invariant-loop-at
invariant-loop-at l = record {
  passing : IsPassing (graph_of l.tables) l.byte l.at l.initial.here l.here l.next;
  steps : l.steps ≡ l.initial.steps;
}

abbrev pub decreases-loop-at : goal.decreases-loop-at
decreases-loop-at l = l.here.room - l.at
