use Rattle.std.proofs.Common.{◌≡◌, drop}
use Rattle.aatry_transcripts.specs.Meeting.{are_met}
use Rattle.aatry_transcripts.specs.Transcripts.{texts}
use Rattle.aatry_transcripts.proofs.meeting.are_met.Given as goal

-- the wanted lines so far are met
abbrev pub invariant-loop-at : goal.invariant-loop-at
invariant-loop-at l = are_met (texts (drop l.at l.wanted)) (texts l.left) ≡ are_met (texts l.wanted) (texts l.told)
