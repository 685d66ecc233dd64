use Rattle.std.proofs.Common.{◌≡◌, ◌++◌, drop}
use Rattle.aatry_test.specs.Differences.{front_text}
use Rattle.aatry_transcripts.specs.Transcripts.{texts}
use Rattle.aatry_test.proofs.differences.push_front.Given as goal

-- the text so far, with the lines that are left, is all
abbrev pub invariant-loop-line : goal.invariant-loop-line
invariant-loop-line l = l.out.items ++ front_text l.path (texts (drop l.line-index l.wanted)) ≡ l.initial.out.items ++ front_text l.path (texts l.wanted)
