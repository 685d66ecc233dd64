use Rattle.std.proofs.Common.{◌∙◌, ap, false, true}
use Rattle.aa_explain_changes.proofs.KindLemmas.{held}
use Rattle.aa_explain_changes.specs.Changes.{changes_of}
use Rattle.aa_explain_changes.specs.Sides.{seen_sides}
use Rattle.aa_explain_changes.proofs.kinds.kind_with.Goals as goal

pub letter_changes-others-requires : goal.letter_changes-others-requires
letter_changes-others-requires c =
    held (seen_sides c.args.sides) (record { path = c.deref.result; old = c.deref-2.result; new = c.deref-3.result }) c.args.path.items c.args.old.items c.args.new.items
    c.requires.old c.requires.new c.deref.ensures.value c.deref-2.ensures.value c.deref-3.ensures.value

pub letter_changes-owned-requires : goal.letter_changes-owned-requires
letter_changes-owned-requires c =
    held (seen_sides c.args.sides) (record { path = c.deref.result; old = c.deref-2.result; new = c.deref-3.result }) c.args.path.items c.args.old.items c.args.new.items
    c.requires.old c.requires.new c.deref.ensures.value c.deref-2.ensures.value c.deref-3.ensures.value

pub returns-clause-kind : goal.returns-clause-kind
returns-clause-kind c = record {
  old = c.requires.old;
  new = c.requires.new;
  others = c.letter_changes-others.ensures ∙ ap (λ p. changes_of (seen_sides c.args.sides) p false) c.deref.ensures.value;
  owned = c.letter_changes-owned.ensures ∙ ap (λ p. changes_of (seen_sides c.args.sides) p true) c.deref.ensures.value;
}
