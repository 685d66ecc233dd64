use Rattle.std.proofs.Common.{◌≡◌, ◌≤◌, ◌-◌, [], ℕ, length}
use Rattle.aa_glob_nfa.specs.OfTables.{graph_of}
use Rattle.aa_glob_nfa.specs.Runs.{HasRun}
use Rattle.aa_glob_nfa.proofs.running.run_on.Given as goal

abbrev pub invariant-loop-at : goal.invariant-loop-at
invariant-loop-at l = record {
  within : l.at ≤ length l.text;
  here : l.here.room ≡ length l.tables.states;
  next : l.next ≡ record { states = []; room = length l.tables.states };
  run : (first : ℕ) → HasRun (graph_of l.tables) l.text l.place (length l.tables.states) l.initial.here l.initial.next first l.initial.steps
      → HasRun (graph_of l.tables) l.text l.at (length l.tables.states) l.here l.next first l.steps;
}

-- the bytes that are left
abbrev pub decreases-loop-at : goal.decreases-loop-at
decreases-loop-at l = length l.text - l.at
