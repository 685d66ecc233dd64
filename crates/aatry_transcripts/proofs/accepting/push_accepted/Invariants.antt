use Rattle.std.proofs.Common.{◌≡◌, ◌++◌, drop}
use Rattle.aatry_transcripts.specs.Accepting.{accepted_from, accepted_lines, ended}
use Rattle.aatry_transcripts.specs.Transcripts.{texts}
use Rattle.aatry_transcripts.proofs.accepting.push_accepted.Given as goal

-- the text so far, with what becomes of the lines that are left, is all
abbrev pub invariant-loop-at : goal.invariant-loop-at
invariant-loop-at l =
    l.out.items ++ ended (accepted_from l.stays (texts (drop l.at l.raw)) (texts l.left))
    ≡ l.initial.out.items ++ ended (accepted_lines (texts l.raw) (texts l.told))
