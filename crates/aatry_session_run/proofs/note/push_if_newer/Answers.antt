use Rattle.std.proofs.Common.{[], inr, refl, sym}
use Rattle.std.proofs.lemmas.List.{append-nil}
use Rattle.aatry_session_run.proofs.note.push_if_newer.Goals as goal

-- nothing is told of a file that can't be read
pub returns-in-None : goal.returns-in-None
returns-in-None g c =
    let unread = rw c.in-None.is at c.in_ok-found.ensures in
    ([], sym (append-nil c.args.out.now.items), inr (unread, refl))
