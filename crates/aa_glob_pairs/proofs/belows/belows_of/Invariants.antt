use Rattle.std.proofs.Common.{◌≡◌, ℕ, ◌<◌, ◌≤◌, length}
use Rattle.std.specs.Prelude.{slice_index_or}
use Rattle.aa_glob_nfa.specs.OfTables.{graph_of}
use Rattle.aa_glob_pairs.specs.Graphs.{IsBelowAt}
use Rattle.aa_glob_pairs.specs.declared.below.Below.TheVariants.{Nothing}
use Rattle.aa_glob_pairs.proofs.belows.belows_of.Given as goal

-- those of the states from here on are known
abbrev pub invariant-loop-left : goal.invariant-loop-left
invariant-loop-left l = record {
  count : length l.belows ≡ length l.tables.states;
  left : l.left ≤ length l.tables.states;
  each : (q : ℕ) → l.left ≤ q → q < length l.tables.states → IsBelowAt (graph_of l.tables) l.classes l.belows q (slice_index_or l.belows q Nothing);
}

abbrev pub decreases-loop-left : goal.decreases-loop-left
decreases-loop-left l = l.left
