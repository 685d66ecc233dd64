use Rattle.std.proofs.Common.{◌≡◌, drop}
use Rattle.std.specs.List.{list_all}
use Rattle.aatry_test.specs.Differences.{is_among}
use Rattle.aatry_transcripts.specs.Transcripts.{texts}
use Rattle.aatry_test.proofs.differences.are_among.Given as goal

-- the lines so far are among the others
abbrev pub invariant-loop-line : goal.invariant-loop-line
invariant-loop-line l = list_all (is_among (texts l.others)) (texts (drop l.line-index l.lines)) ≡ list_all (is_among (texts l.others)) (texts l.lines)
