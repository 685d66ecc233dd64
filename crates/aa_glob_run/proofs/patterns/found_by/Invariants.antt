use Rattle.std.proofs.Common.{ℕ, ◌↔◌}
use Rattle.std.specs.Prelude.{Contains}
use Rattle.aa_glob_run.specs.Ends.{IsEndIn}
use Rattle.aa_glob_nfa.specs.OfTables.{graph_of}
use Rattle.aa_glob_run.proofs.patterns.found_by.Given as goal

abbrev pub invariant-loop-at : goal.invariant-loop-at
invariant-loop-at l = (p : ℕ) → Contains l.found.items p ↔ IsEndIn (graph_of l.tables) l.at l.live p
