use Rattle.std.proofs.Common.{length, take}
use Rattle.aa_glob_nfa.specs.OfTables.{graph_of}
use Rattle.aa_glob_paths.specs.code.Closing.{AreMore, IsFollowedBehind}
use Rattle.aa_glob_paths.specs.code.Rooms.{HasRoom}
use Rattle.aa_glob_paths.proofs.closing.follow_each.Given as goal

abbrev pub invariant-loop-byte : goal.invariant-loop-byte
invariant-loop-byte l = record {
  more : AreMore (graph_of l.tables) (length l.tables.states) l.from l.initial.sets l.sets;
  room : HasRoom (length l.tables.states) l.fronts;
  followed : IsFollowedBehind (graph_of l.tables) l.wanted l.settled l.sets l.from (take l.byte-index l.bytes);
}
