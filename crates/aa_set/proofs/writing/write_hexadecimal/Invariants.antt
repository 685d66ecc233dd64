use Rattle.std.proofs.Common.{◌≡◌, take}
use Rattle.aa_bytes.specs.Quoting.{hexadecimal}
use Rattle.aa_set_commands.specs.Streams.{WritesBehind}
use Rattle.aa_set.proofs.writing.write_hexadecimal.Given as goal

-- the bytes so far are written
abbrev pub invariant-loop-byte : goal.invariant-loop-byte
invariant-loop-byte g l = record {
  written : WritesBehind (g.W.Sink.written l.initial.writer) (g.W.Sink.written l.writer) l.initial.waiting.items l.waiting.items (hexadecimal (take l.byte-index l.bytes));
  flag : g.W.Sink.failed l.writer ≡ g.W.Sink.failed l.initial.writer;
}
