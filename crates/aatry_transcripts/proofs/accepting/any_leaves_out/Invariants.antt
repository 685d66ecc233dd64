use Rattle.std.proofs.Common.{◌≡◌, drop}
use Rattle.std.specs.List.{list_any}
use Rattle.aatry_transcripts.specs.Meeting.{leaves_out}
use Rattle.aatry_transcripts.specs.Transcripts.{texts}
use Rattle.aatry_transcripts.proofs.accepting.any_leaves_out.Given as goal

-- the lines so far leave out none
abbrev pub invariant-loop-line : goal.invariant-loop-line
invariant-loop-line l = list_any leaves_out (texts (drop l.line-index l.wanted)) ≡ list_any leaves_out (texts l.wanted)
