use Rattle.std.proofs.Common.{◌≡◌, ◌∙◌, [], ◌∷◌, ap, refl}
use Rattle.std.specs.Prelude.{is_some}
use Rattle.aa_profile_data.specs.Conflicts.{first_conflict}
use Rattle.aa_explain_written.proofs.LeadLemmas.{pair_overlap}
use Rattle.aa_explain_written.proofs.conflicts.overlap.Goals as goal

pub returns : goal.returns
returns c =
    let there = c.in_ok-leading_rule.field-0 in
    let here = c.in_ok-leading_rule-2.field-0 in
    let items : c.deref.result.now ≡ there ∷ here ∷ [] = rw (c.deref.ensures.value, c.in_ok-push-2.ensures.items, c.in_ok-push.ensures.items, c.in_ok-rules.ensures.items) refl in
    c.is_some.ensures ∙ ap is_some (c.in_ok-first_conflict.ensures ∙ ap (first_conflict []) items)
    ∙ pair_overlap there here c.args.other.now c.args.one.now c.in_ok-leading_rule.ensures c.in_ok-leading_rule-2.ensures
