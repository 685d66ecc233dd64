use Rattle.std.proofs.Common.{◌≡◌, length}
use Rattle.aa_glob_nfa.specs.OfTables.{graph_of}
use Rattle.aa_glob_paths.specs.Settled.{MarksSettled}
use Rattle.aa_glob_paths.proofs.settled.settled_states.Given as goal

-- the states so far are marked right
abbrev pub invariant-loop-state : goal.invariant-loop-state
invariant-loop-state l = record {
  count : length l.settled.items ≡ l.state;
  marks : MarksSettled (graph_of l.tables) l.classes l.settled.items;
}
