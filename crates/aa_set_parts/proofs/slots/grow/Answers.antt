use Rattle.std.proofs.Common.{ap, ◌∙◌, arith}
use Rattle.aa_set_parts.specs.Slots.{trimmed}
use Rattle.aa_set_parts.proofs.SlotLemmas.{trimmed-push}
use Rattle.aa_set_parts.proofs.slots.grow.Goals as goal

pub loop-slots-preserved : goal.loop-slots-preserved
loop-slots-preserved c =
    let (same, longer) = c.loop-slots.invariant in
    let pushed = c.in_ok-push.ensures in
    let one = pushed.len in (
      ap trimmed pushed.items ∙ trimmed-push c.loop-slots.slots.items ∙ same,
      omega arith,
    )
