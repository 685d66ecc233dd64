use Rattle.std.proofs.Common.{cond, take, None, Some, sym, ap, ◌∙◌}
use Rattle.aa_decide_ready.specs.SlotNames.{holds, slot_named}
use Rattle.aa_decide_ready.specs.Indexes.{first_of}
use Rattle.aa_decide_ready.proofs.NameLemmas.{slot_named-more}
use Rattle.aa_decide_ready.proofs.names.NameIndex.of.Goals as goal

pub loop-place-preserved : goal.loop-place-preserved
loop-place-preserved c = λ name.
    c.in_ok-note.ensures name
    ∙ ap (λ first. first_of first (cond (holds name c.index-slots-place.result) (Some c.loop-place.place) None)) (c.loop-place.invariant name)
    ∙ ap (λ slot. first_of (slot_named name (take c.loop-place.place c.args.slots.now)) (cond (holds name slot) (Some c.loop-place.place) None)) c.index-slots-place.is
    ∙ sym (slot_named-more name c.args.slots.now c.loop-place.place c.index-slots-place.result c.loop-place-test.true)
