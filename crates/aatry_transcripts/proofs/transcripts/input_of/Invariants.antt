use Rattle.std.proofs.Common.{◌≡◌, ◌++◌, drop}
use Rattle.aatry_transcripts.specs.Transcripts.{input_of, texts}
use Rattle.aatry_transcripts.proofs.transcripts.input_of.Given as goal

-- the commands so far, with those of the lines that are left, are all
abbrev pub invariant-loop-line : goal.invariant-loop-line
invariant-loop-line l = l.input.items ++ input_of (texts (drop l.line-index l.lines)) ≡ input_of (texts l.lines)
