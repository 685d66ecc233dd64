use Rattle.std.proofs.Common.{◌<◌, ◌≤◌, length}
use Rattle.aa_glob_nfa.specs.OfTables.{graph_of}
use Rattle.aa_glob_run.specs.code.Memos.{Remembers, fronts_in, most_new}
use Rattle.aa_glob_run.proofs.recall.recall.Given as goal

abbrev pub invariant-loop-byte : goal.invariant-loop-byte
invariant-loop-byte l = record {
  memo : Remembers (graph_of l.tables) (length l.tables.states) l.memo;
  within : l.at < length (fronts_in l.memo);
  few : l.new ≤ most_new l.text;
}
