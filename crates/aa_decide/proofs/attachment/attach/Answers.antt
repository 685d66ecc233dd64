use Rattle.std.proofs.Common.{◌≡◌, Some, None, ap, map, subst, sym, ◌∙◌}
use Rattle.std.specs.Prelude.{option_and_then, slice_get}
use Rattle.aa_decide_rules.specs.StandingOut.{standing_out}
use Rattle.aa_decide.specs.Attachment.{attached}
use Rattle.aa_decide_ready.specs.Slots.{Holds, filled}
use Rattle.aa_decide.specs.code.SlotRanks.{slot_rank}
use Rattle.aa_decide_ready.specs.Slots.{entry_at}
use Rattle.aa_decide.proofs.SlotLemmas.{attached-among}
use Rattle.aa_decide.proofs.attachment.attach.Goals as goal

pub returns-in-None : goal.returns-in-None
returns-in-None c =
    let path = c.args.path.now in
    let slots = c.args.slots.now in
    let places = c.in_ok-places.places.items in
    let ranks = c.in_ok-ranks.ensures ∙ (λ i. map (λ slot. slot_rank path (entry_at (c.as_slice.ensures i) slot)) (c.deref.ensures.value i)) in
    let none : standing_out (map (λ slot. slot_rank path (entry_at slots slot)) places) ≡ None =
    ap standing_out (sym ranks ∙ sym c.deref-2.ensures.value) ∙ sym c.standing_out.ensures ∙ c.in-None.is in
    subst (λ found. Holds slots (option_and_then (slice_get places) found) (attached path (filled slots))) none
    (attached-among c.which_rank_stands_out.ensures path slots places c.in_ok-places.ensures)

pub returns : goal.returns
returns c =
    let path = c.args.path.now in
    let slots = c.args.slots.now in
    let places = c.in_ok-places.places.items in
    let place = c.in-Some.place in
    let ranks = c.in_ok-ranks.ensures ∙ (λ i. map (λ slot. slot_rank path (entry_at (c.as_slice.ensures i) slot)) (c.deref.ensures.value i)) in
    let some : standing_out (map (λ slot. slot_rank path (entry_at slots slot)) places) ≡ Some place =
    ap standing_out (sym ranks ∙ sym c.deref-2.ensures.value) ∙ sym c.standing_out.ensures ∙ c.in-Some.is in
    let found : c.slot_at.result ≡ slice_get places place = c.slot_at.ensures ∙ ap (λ l. slice_get l place) c.deref-in-Some.ensures.value in
    subst (λ slot. Holds slots slot (attached path (filled slots))) (sym found)
    (subst (λ found. Holds slots (option_and_then (slice_get places) found) (attached path (filled slots))) some
    (attached-among c.which_rank_stands_out.ensures path slots places c.in_ok-places.ensures))
