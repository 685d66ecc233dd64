use Rattle.std.proofs.Common.{◌∙◌, ap}
use Rattle.aa_explain_changes.proofs.KindLemmas.{held}
use Rattle.aa_explain_changes.specs.Changes.{answers_at}
use Rattle.aa_explain_changes.specs.Sides.{seen_sides}
use Rattle.aa_explain_changes.proofs.rules.answers_on.Goals as goal

pub answers_at-requires : goal.answers_at-requires
answers_at-requires c =
    let kind = c.args.kind.now in
    held (seen_sides c.args.sides) (record { path = c.deref.result; old = c.deref-2.result; new = c.deref-3.result }) kind.path.items kind.old.items kind.new.items
    c.requires.old c.requires.new c.deref.ensures.value c.deref-2.ensures.value c.deref-3.ensures.value

pub returns : goal.returns
returns c =
    c.answers_at.ensures ∙ ap (λ p. answers_at (seen_sides c.args.sides) p c.args.owned c.args.letters.0) c.deref.ensures.value
