use Rattle.std.proofs.Common.{◌≡◌, ◌<◌, ℕ, false}
use Rattle.aa_glob_nfa.specs.Entries.{takes_byte}
use Rattle.aa_glob_nfa.specs.Graphs.{entry_of}
use Rattle.aa_glob_nfa.specs.OfTables.{graph_of}
use Rattle.aa_glob_paths.proofs.settled.takes_zero.Given as goal

-- zero brings into none of the states so far
abbrev pub invariant-loop-state : goal.invariant-loop-state
invariant-loop-state l = (r : ℕ) → r < l.state → takes_byte (entry_of (graph_of l.tables) r) 0 ≡ false
