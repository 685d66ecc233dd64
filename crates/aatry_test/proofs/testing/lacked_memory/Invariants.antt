use Rattle.std.proofs.Common.{◌≡◌, drop}
use Rattle.std.specs.List.{list_any}
use Rattle.aatry_test.specs.Tests.{says_memory}
use Rattle.aatry_transcripts.specs.Transcripts.{texts}
use Rattle.aatry_test.proofs.testing.lacked_memory.Given as goal

-- the lines so far say nothing of it
abbrev pub invariant-loop-line : goal.invariant-loop-line
invariant-loop-line l = list_any says_memory (texts (drop l.line-index l.lines)) ≡ list_any says_memory (texts l.lines)
