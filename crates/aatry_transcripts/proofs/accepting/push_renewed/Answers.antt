use Rattle.std.proofs.Common.{◌≡◌, ◌∙◌, sym, true}
use Rattle.std.specs.List.{list_any}
use Rattle.aatry_transcripts.specs.Meeting.{leaves_out}
use Rattle.aatry_transcripts.specs.Transcripts.{texts}
use Rattle.aatry_transcripts.proofs.accepting.push_renewed.Goals as goal

pub returns-then-any_leaves_out : goal.returns-then-any_leaves_out
returns-then-any_leaves_out c =
    let some : list_any leaves_out (texts c.args.wanted.now) ≡ true = sym c.any_leaves_out.ensures ∙ c.if-any_leaves_out.true in rw some c.push_shortened.ensures
