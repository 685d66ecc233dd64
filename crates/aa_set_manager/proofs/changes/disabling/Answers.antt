use Rattle.std.proofs.Common.{◌≡◌, Ok, true, sym, ap, ◌∙◌}
use Rattle.aa_decide_ready.specs.Named.{entry_named}
use Rattle.aa_decide_ready.specs.Entries.{is_in_force}
use Rattle.aa_decide_ready.specs.Slots.{filled}
use Rattle.aa_set_manager.proofs.PartLemmas.{disabled-seen}
use Rattle.aa_decide_ready.specs.SlotNames.{slot_named}
use Rattle.aa_set_parts.specs.Parts.{after}
use Rattle.aa_set_manager.proofs.changes.disabling.Goals as goal

pub returns-clause-ok : goal.returns-clause-ok
returns-clause-ok c =
    let name = c.args.name.now in
    let found = c.in-Some.ensures in
    let force : is_in_force c.in-Some.entry.now.state ≡ true = sym (ap is_in_force c.state.ensures.state) ∙ sym c.is_in_force.ensures ∙ c.if-not-is_in_force.false in
    disabled-seen name c.args.slots.now c.in-Some.slot c.in-Some.entry.now
    (ap (slot_named name) (sym c.indexed.ensures) ∙ sym found.slot)
    (ap (λ slots. entry_named name (filled slots)) (sym c.indexed.ensures) ∙ sym found.found)
    found.fits
    force
    ∙ ap (λ parts. Ok (filled (after c.args.slots.now parts))) (sym c.in_ok-in_state.ensures)
