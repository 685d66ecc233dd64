use Rattle.std.proofs.Common.{◌≡◌, ◌++◌, length, map}
use Rattle.aatry_transcripts.specs.Accepting.{ended, shortened}
use Rattle.aatry_transcripts.specs.Transcripts.{texts}
use Rattle.aatry_transcripts.proofs.accepting.push_shortened.Given as goal

-- the text so far, with what becomes of the lines that are left, is all
abbrev pub invariant-loop-left : goal.invariant-loop-left
invariant-loop-left l =
    l.out.items ++ ended (map (λ line. line ++ l.end) (shortened (texts l.left)))
    ≡ l.initial.out.items ++ ended (map (λ line. line ++ l.end) (shortened (texts l.told)))

abbrev pub decreases-loop-left : goal.decreases-loop-left
decreases-loop-left l = length l.left
