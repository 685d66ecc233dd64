use Rattle.std.proofs.Common.{Ok, Some, sym, ap, ◌∙◌}
use Rattle.aa_decide_ready.specs.Named.{entry_named}
use Rattle.aa_decide_ready.specs.Slots.{filled}
use Rattle.aa_set_manager.specs.Changes.{modes_of}
use Rattle.aa_set_manager.proofs.PartLemmas.{mode-seen}
use Rattle.aa_decide_ready.specs.SlotNames.{slot_named}
use Rattle.aa_set_parts.specs.Parts.{after}
use Rattle.aa_set_manager.proofs.changes.switching.Goals as goal

pub returns-clause-ok : goal.returns-clause-ok
returns-clause-ok c =
    let name = c.args.name.now in
    let found = c.in-Some.ensures in
    mode-seen c.args.mode name c.args.slots.now c.in-Some.slot c.in-Some.entry.now c.from_vec.result
    (ap (slot_named name) (sym c.indexed.ensures) ∙ sym found.slot)
    (ap (λ slots. entry_named name (filled slots)) (sym c.indexed.ensures) ∙ sym found.found)
    found.fits
    (c.from_vec.ensures ∙ c.in_ok-modes.ensures ∙ ap (modes_of (Some c.args.mode)) c.profile.ensures)
    ∙ ap (λ parts. Ok (filled (after c.args.slots.now parts))) (sym c.in_ok-in_state.ensures)
