use Rattle.std.proofs.Common.{length, ◌-◌}
use Rattle.aa_glob_nfa.specs.OfTables.{graph_of}
use Rattle.aa_glob_paths.specs.Found.{AreFound}
use Rattle.aa_glob_paths.specs.code.Closing.{ComeOfUpTo, IsClosedBefore}
use Rattle.aa_glob_paths.specs.code.Rooms.{HasRoom}
use Rattle.aa_glob_paths.proofs.closing.reachable.Given as goal

abbrev pub invariant-loop-at : goal.invariant-loop-at
invariant-loop-at l = record {
  found : AreFound (graph_of l.tables) (length l.tables.states) l.sets;
  up_to : ComeOfUpTo l.sets l.at;
  room : HasRoom (length l.tables.states) l.fronts;
  closed : IsClosedBefore (graph_of l.tables) l.wanted l.settled l.sets l.at;
}

-- no set at the limit or behind it is followed
abbrev pub decreases-loop-at : goal.decreases-loop-at
decreases-loop-at l = l.limit - l.at
