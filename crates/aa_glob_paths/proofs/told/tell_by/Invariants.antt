use Rattle.std.proofs.Common.{take}
use Rattle.aa_glob_nfa.specs.OfTables.{graph_of}
use Rattle.aa_glob_nfa.specs.Tables.{LeadsAway}
use Rattle.aa_glob_paths.specs.code.Told.{HasEnds, KeepsTold, TellsWays}
use Rattle.aa_glob_paths.proofs.told.tell_by.Given as goal

abbrev pub invariant-loop-way : goal.invariant-loop-way
invariant-loop-way l = record {
  ends : HasEnds l.told;
  keeps : KeepsTold l.initial.told l.told;
  tells : TellsWays (LeadsAway (take l.way-index l.ways) l.from) (graph_of l.tables) l.bytes l.told;
}
