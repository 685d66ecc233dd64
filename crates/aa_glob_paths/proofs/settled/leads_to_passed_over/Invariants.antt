use Rattle.std.proofs.Common.{◌<◌, ◌-◌, ℕ, List, length}
use Rattle.aa_glob_nfa.specs.Graphs.{Reaches}
use Rattle.aa_glob_nfa.specs.OfTables.{graph_of}
use Rattle.aa_glob_paths.proofs.settled.leads_to_passed_over.Given as goal

-- wherever the first state is reached, this one is
abbrev pub invariant-loop-state : goal.invariant-loop-state
invariant-loop-state l = record {
  is_state : l.at < length l.tables.states;
  follows : (past : List ℕ) → Reaches (graph_of l.tables) past l.state → Reaches (graph_of l.tables) past l.at;
}

abbrev pub decreases-loop-state : goal.decreases-loop-state
decreases-loop-state l = length l.tables.states - l.at
