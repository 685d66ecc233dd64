use Rattle.std.proofs.Common.{take}
use Rattle.aa_glob_nfa.specs.OfTables.{graph_of}
use Rattle.aa_glob_paths.specs.code.Apart.{GetsLikeEach}
use Rattle.aa_glob_paths.proofs.bytes.put_each_new.Given as goal

abbrev pub invariant-loop-byte : goal.invariant-loop-byte
invariant-loop-byte l = GetsLikeEach (graph_of l.tables) l.initial.bytes.items l.bytes.items (take l.byte-index l.more)
