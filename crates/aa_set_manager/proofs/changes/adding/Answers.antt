use Rattle.std.proofs.Common.{◌≡◌, false, sym, ap, ◌∙◌}
use Rattle.aa_decide_ready.specs.Slots.{filled}
use Rattle.aa_set_manager.specs.Changes.{are_there, put_all}
use Rattle.aa_set_manager.proofs.PartLemmas.{added-seen}
use Rattle.aa_set_parts.specs.Parts.{after}
use Rattle.aa_set_manager.proofs.changes.adding.Goals as goal

pub returns-clause-ok : goal.returns-clause-ok
returns-clause-ok c =
    let none : are_there c.args.profiles.items (filled c.args.slots.now) ≡ false =
    (λ i. are_there (sym c.deref.ensures.value i) (filled (sym c.indexed.ensures i))) ∙ c.in_ok-found.ensures.ok in
    added-seen c.args.force_complain (filled c.args.slots.now) (filled (after c.args.slots.now c.in_ok-loading.field-0.parts)) c.args.profiles.items none c.requires.own
    (c.in_ok-loading.ensures.put ∙ ap (λ set. put_all set (filled c.args.slots.now) c.args.profiles.items) c.forced.ensures)
