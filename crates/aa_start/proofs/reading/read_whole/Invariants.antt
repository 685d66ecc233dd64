use Rattle.std.proofs.Common.{◌≤◌, ◌<◌, vec_len}
use Rattle.std.specs.Io.KnownBytes.{Consumes}
use Rattle.aa_text_files.specs.Limit.{most_bytes}
use Rattle.aa_start.proofs.reading.read_whole.Given as goal

-- each read so far gave a byte
abbrev pub invariant-loop-count : goal.invariant-loop-count
invariant-loop-count g l = record {
  room : 0 < vec_len l.piece;
  within : vec_len l.bytes ≤ most_bytes;
  counted : l._count ≤ vec_len l.bytes;
  read : Consumes (g.D.File.Read.remaining l.initial.file) (g.D.File.Read.remaining l.file) l.bytes.items;
}
