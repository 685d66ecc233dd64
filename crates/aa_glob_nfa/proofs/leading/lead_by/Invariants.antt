use Rattle.std.proofs.Common.{take}
use Rattle.aa_glob_nfa.specs.OfTables.{graph_of}
use Rattle.aa_glob_nfa.specs.code.Passes.{Enters}
use Rattle.aa_glob_nfa.specs.Tables.{LeadsAway}
use Rattle.aa_glob_nfa.proofs.leading.lead_by.Given as goal

abbrev pub invariant-loop-way : goal.invariant-loop-way
invariant-loop-way l = Enters (graph_of l.tables) l.byte (LeadsAway (take l.way-index l.ways) l.from) l.initial.here l.here l.initial.next l.next
