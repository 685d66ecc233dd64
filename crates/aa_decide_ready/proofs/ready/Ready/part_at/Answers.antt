use Rattle.std.proofs.Common.{sym}
use Rattle.aa_decide_ready.proofs.PartLemmas.{part-found}
use Rattle.aa_decide_ready.specs.code.Parts.{ArePartsOf}
use Rattle.aa_decide_ready.proofs.ready.Ready.part_at.Goals as goal

pub returns-in-Some : goal.returns-in-Some
returns-in-Some c =
    let children = c.self.inside.profile.children in
    let are : ArePartsOf c.deref.result.now children = rw c.deref.ensures.value c.self.invariant.1 in
    rw (c.in-Some.is, sym c.self.view_is)
    (part-found c.deref.result.now children c.in-Some.place _ c.get.result are c.get.ensures.lookup.3 c.get.ensures.lookup.1)
