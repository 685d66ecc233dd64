use Rattle.std.proofs.Common.{sym}
use Rattle.aa_decide_ready.specs.code.Parts.{IsPartOf}
use Rattle.aa_decide_ready.proofs.PartLemmas.{parts-more}
use Rattle.aa_decide_ready.proofs.part.parts_of.Goals as goal

pub loop-child-preserved : goal.loop-child-preserved
loop-child-preserved c =
    let child = c.child-item.result in
    let part = c.in_ok-build.field-0 in
    let made : IsPartOf part child.rules child.attachments = rw (sym c.as_slice.ensures) (c.in_ok-build.ensures child.rules) in
    rw (c.in_ok-push.ensures.items) (parts-more c.loop-child.parts.items c.args.children.now c.loop-child.child-index part child c.loop-child-test.true c.child-item.is c.loop-child.invariant made)
