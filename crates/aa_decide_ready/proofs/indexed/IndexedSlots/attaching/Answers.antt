use Rattle.std.proofs.Common.{length, subst}
use Rattle.std.proofs.lemmas.Result.{IfOk-weaker}
use Rattle.aa_decide_ready.specs.Indexes.{ArePlaces}
use Rattle.aa_decide_ready.proofs.AttachmentLemmas.{all-attach}
use Rattle.aa_decide_ready.proofs.indexed.IndexedSlots.attaching.Goals as goal

pub returns-in-None : goal.returns-in-None
returns-in-None c =
    IfOk-weaker c.all_places.result _ _
    (λ found places. all-attach c.args.path.now c.args.self.now found.items (subst (λ slots. ArePlaces (length slots) found.items) c.self.view_is places))
    c.all_places.ensures
