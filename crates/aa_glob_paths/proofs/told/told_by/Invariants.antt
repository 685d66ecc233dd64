use Rattle.std.proofs.Common.{take}
use Rattle.aa_glob_nfa.specs.OfTables.{graph_of}
use Rattle.aa_glob_paths.specs.code.Told.{HasEnds, TellsSet}
use Rattle.aa_glob_paths.proofs.told.told_by.Given as goal

abbrev pub invariant-loop-state : goal.invariant-loop-state
invariant-loop-state l = record {
  ends : HasEnds l.told;
  tells : TellsSet (graph_of l.tables) l.bytes l.told (take l.state-index l.set);
}
