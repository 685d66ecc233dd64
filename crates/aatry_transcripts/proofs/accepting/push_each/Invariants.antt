use Rattle.std.proofs.Common.{◌≡◌, ◌++◌, drop, map}
use Rattle.aatry_transcripts.specs.Accepting.{ended}
use Rattle.aatry_transcripts.specs.Transcripts.{texts}
use Rattle.aatry_transcripts.proofs.accepting.push_each.Given as goal

-- the text so far, with the lines that are left, is all
abbrev pub invariant-loop-line : goal.invariant-loop-line
invariant-loop-line l =
    l.out.items ++ ended (map (λ line. line ++ l.end) (texts (drop l.line-index l.told)))
    ≡ l.initial.out.items ++ ended (map (λ line. line ++ l.end) (texts l.told))
