use Rattle.std.proofs.Common.{◌≡◌, ◌++◌, length}
use Rattle.aa_set_commands.specs.Lines.{lines}
use Rattle.aatry_transcripts.specs.Transcripts.{texts}
use Rattle.aatry_transcripts.proofs.lines.lines_of.Given as goal

-- the lines so far, with those of what is left, are all
abbrev pub invariant-loop-line : goal.invariant-loop-line
invariant-loop-line l = texts l.found.items ++ lines l.rest ≡ lines l.text

abbrev pub decreases-loop-line : goal.decreases-loop-line
decreases-loop-line l = length l.rest
