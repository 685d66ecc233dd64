use Rattle.std.proofs.Common.{arith, subst, sym}
use Rattle.aa_history.specs.Machine.{AreUpTo}
use Rattle.aa_history.specs.SeenMarks.{seen_marks}
use Rattle.aa_history.proofs.MarkLemmas.{with_number-within, within_more}
use Rattle.aa_history.proofs.marks.Marks.set.Goals as goal

pub invariant_of-self-2 : goal.invariant_of-self-2
invariant_of-self-2 c =
    let old = c.self.inside in
    let most = c.max-self-inside.result in
    subst (AreUpTo most) (sym c.in_ok-set_among.ensures.ok)
    (with_number-within most c.args.name.items c.args.number (seen_marks old.marks.items)
    (within_more old.greatest most (seen_marks old.marks.items) (omega (arith, c.max-self-inside.ensures)) c.self.invariant)
    (omega (arith, c.max-self-inside.ensures)))
