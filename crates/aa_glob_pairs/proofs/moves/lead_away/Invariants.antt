use Rattle.std.proofs.Common.{take}
use Rattle.aa_glob_nfa.specs.OfTables.{graph_of}
use Rattle.aa_glob_pairs.specs.code.Gathered.{GetsLed}
use Rattle.aa_glob_nfa.specs.Tables.{LeadsAway}
use Rattle.aa_glob_pairs.proofs.moves.lead_away.Given as goal

abbrev pub invariant-loop-way : goal.invariant-loop-way
invariant-loop-way l = GetsLed (graph_of l.tables) l.initial.moves l.moves (LeadsAway (take l.way-index l.way-items) l.state)
