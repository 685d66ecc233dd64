use Rattle.aa_set.proofs.LawLemmas.{pieces-no-reply}
use Rattle.aa_set.proofs.laws.pieces_change_no_reply.Goals as goal

pub returns : goal.returns
returns c = pieces-no-reply
