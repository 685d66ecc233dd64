use Rattle.std.proofs.Common.{ℕ, ◌<◌}
use Rattle.std.specs.Prelude.{Contains}
use Rattle.aa_glob_nfa.specs.OfTables.{graph_of}
use Rattle.aa_glob_paths.specs.Alike.{AreAlike, StandForPrinted}
use Rattle.aa_glob_paths.proofs.bytes.bytes_for_all.Given as goal

-- each byte before this one has one like it, and so has each that can be printed
abbrev pub invariant-loop-number : goal.invariant-loop-number
invariant-loop-number l = record {
  like : (c : ℕ) → c < l.number → (b : ℕ) × Contains l.bytes.items b × AreAlike (graph_of l.tables) b c;
  printed : StandForPrinted (graph_of l.tables) l.bytes.items;
}
