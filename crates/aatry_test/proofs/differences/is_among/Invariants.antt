use Rattle.std.proofs.Common.{◌≡◌, drop}
use Rattle.aatry_test.specs.Differences.{is_among}
use Rattle.aatry_transcripts.specs.Transcripts.{texts}
use Rattle.aatry_test.proofs.differences.is_among.Given as goal

-- the lines so far are others
abbrev pub invariant-loop-other : goal.invariant-loop-other
invariant-loop-other l = is_among (texts (drop l.other-index l.lines)) l.line ≡ is_among (texts l.lines) l.line
