use Rattle.std.proofs.Common.{length, not, sym, ap, ◌∙◌, arith}
use Rattle.std.specs.Option.{is_some}
use Rattle.aa_set_parts.proofs.SlotLemmas.{trimmed-at, trimmed-less}
use Rattle.aa_set_parts.proofs.slots.end_of.Goals as goal

pub loop-end-preserved : goal.loop-end-preserved
loop-end-preserved c =
    let (within, same) = c.loop-end.invariant in (
      omega arith,
      trimmed-less c.args.slots.now c.loop-end.end c.index-slots-end.result c.loop-end-test.true within
          (sym (ap is_some c.index-slots-end.is) ∙ c.is_none.ensures ∙ ap not c.if-is_none.true) ∙ same,
    )

pub returns-else-is_none-clause-end : goal.returns-else-is_none-clause-end
returns-else-is_none-clause-end c =
    let (within, same) = c.loop-end.invariant in
    sym (trimmed-at c.args.slots.now c.loop-end.end c.index-slots-end.result c.loop-end-test.true within (sym (ap is_some c.index-slots-end.is) ∙ c.is_none.ensures ∙ ap not c.if-is_none.false))
    ∙ ap length same
