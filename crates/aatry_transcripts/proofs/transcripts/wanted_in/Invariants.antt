use Rattle.std.proofs.Common.{◌≡◌, ◌++◌, drop}
use Rattle.aatry_transcripts.specs.Transcripts.{texts, wanted_in}
use Rattle.aatry_transcripts.proofs.transcripts.wanted_in.Given as goal

-- the wanted lines so far, with those of the lines that are left, are all
abbrev pub invariant-loop-line : goal.invariant-loop-line
invariant-loop-line l = texts l.wanted.items ++ wanted_in (texts (drop l.line-index l.lines)) ≡ wanted_in (texts l.lines)
