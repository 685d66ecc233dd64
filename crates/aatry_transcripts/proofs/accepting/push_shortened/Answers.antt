use Rattle.std.proofs.Common.{◌∙◌, ◌++◌, ap, map}
use Rattle.aatry_transcripts.specs.Accepting.{ended, shortened}
use Rattle.aatry_transcripts.specs.Transcripts.{texts}
use Rattle.aatry_transcripts.proofs.accepting.push_shortened.Goals as goal

pub loop-left-preserved : goal.loop-left-preserved
loop-left-preserved c =
    ap (λ ls. c.push_first.new.out.items ++ ended (map (λ line. line ++ c.args.end.now) (shortened (texts ls)))) c.lines_behind-left.ensures
    ∙ c.in_ok-size.ensures.told ∙ c.loop-left.invariant
