use Rattle.std.proofs.Common.{ℕ, take}
use Rattle.std.specs.Prelude.{slice_index_or}
use Rattle.aa_glob_pairs.specs.Below.{Includes}
use Rattle.aa_glob_nfa.specs.Tables.{LeadsAway}
use Rattle.aa_glob_pairs.specs.declared.below.Below.TheVariants.{Nothing}
use Rattle.aa_glob_pairs.proofs.belows.beside_ways.Given as goal

abbrev pub invariant-loop-way : goal.invariant-loop-way
invariant-loop-way l = record {
  first : Includes l.all l.fn.below;
  each : (x : ℕ) → LeadsAway (take l.way-index l.ways) l.state x → Includes l.all (slice_index_or l.belows x Nothing);
}
