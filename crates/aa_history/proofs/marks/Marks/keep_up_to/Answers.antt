use Rattle.std.proofs.Common.{◌∙◌, ap, arith, subst, sym}
use Rattle.aa_history.specs.Machine.{AreUpTo, up_to}
use Rattle.aa_history.specs.SeenMarks.{seen_marks}
use Rattle.aa_history.proofs.MarkLemmas.{up_to-all, up_to-within, within_more}
use Rattle.aa_history.proofs.marks.Marks.keep_up_to.Goals as goal

pub invariant_of-self : goal.invariant_of-self
invariant_of-self c =
    let number = c.args.number in
    subst (AreUpTo number) (sym c.keep_among.ensures) (up_to-within number (seen_marks c.self.inside.marks.items))

pub returns-else-self-number : goal.returns-else-self-number
returns-else-self-number c =
    let number = c.args.number in
    let marks = seen_marks c.self.inside.marks.items in
    sym c.self.view_is ∙ sym (up_to-all number marks (within_more c.self.inside.greatest number marks (omega (arith, c.if-self-number.false)) c.self.invariant))
    ∙ ap (up_to number) c.self.view_is
