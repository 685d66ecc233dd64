use Rattle.std.proofs.Common.{◌≡◌, ◌≤◌, ◌+◌, count_by, drop}
use Rattle.aatry_transcripts.specs.Transcripts.{is_assertion, texts}
use Rattle.aatry_transcripts.proofs.transcripts.assertion_count.Given as goal

-- the count so far, with that of the lines that are left, is all
abbrev pub invariant-loop-line : goal.invariant-loop-line
invariant-loop-line l = record {
  all : l.count + count_by is_assertion (texts (drop l.line-index l.lines)) ≡ count_by is_assertion (texts l.lines);
  few : l.count ≤ l.line-index;
}
