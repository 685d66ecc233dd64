use Rattle.aa_decide_ready.proofs.AttachmentLemmas.{places-more}
use Rattle.aa_decide_ready.proofs.indexed.all_places.Goals as goal

pub loop-place-preserved : goal.loop-place-preserved
loop-place-preserved c = rw c.in_ok-push.ensures.items (places-more c.loop-place.place c.loop-place.places.items c.loop-place.invariant)
