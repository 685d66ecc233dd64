use Rattle.std.proofs.Common.{◌≡◌, ℕ, true, take}
use Rattle.std.specs.Prelude.{Contains}
use Rattle.aa_bytes.specs.ByteMaps.{in_map}
use Rattle.aa_glob_nfa.specs.Entries.{takes_byte}
use Rattle.aa_glob_nfa.specs.Graphs.{entry_of}
use Rattle.aa_glob_nfa.specs.OfTables.{graph_of}
use Rattle.aa_glob_paths.specs.code.Told.{KeepsTold}
use Rattle.aa_glob_paths.proofs.told.tell_taken.Given as goal

abbrev pub invariant-loop-byte : goal.invariant-loop-byte
invariant-loop-byte l = record {
  keeps : KeepsTold l.initial.told l.told;
  taken : (c : ℕ) → Contains (take l.byte-index l.bytes) c → takes_byte (entry_of (graph_of l.tables) l.number) c ≡ true → in_map l.told c ≡ true;
}
