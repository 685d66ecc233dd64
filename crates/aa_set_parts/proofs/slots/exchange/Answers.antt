use Rattle.std.proofs.Common.{sym, ap, ◌∙◌}
use Rattle.std.proofs.Math.Seq.{map-set_same}
use Rattle.aa_decide_ready.specs.Indexes.{profile_in}
use Rattle.aa_set_parts.specs.Parts.{put_in, taken_out}
use Rattle.aa_set_parts.specs.PartLaws.{same_part}
use Rattle.aa_set_parts.specs.Slots.{with_content}
use Rattle.aa_set_parts.proofs.SlotLemmas.{content-read, state-keeps, trimmed-set}
use Rattle.aa_set_parts.proofs.slots.exchange.Goals as goal

pub returns-clause-slots : goal.returns-clause-slots
returns-clause-slots c =
    let slots = c.args.slots.now.items in
    let part = c.args.part.now in
    let held = c.index_mut.result.now in
    let there = content-read part.slot slots held c.requires ∙ sym c.index_mut.ensures.value in
    trimmed-set part.slot c.exchange.new.slot slots c.requires
    ∙ ap (λ content. with_content part.slot content slots) (c.exchange.ensures.slot ∙ ap (put_in part.content) (sym there))

pub returns-clause-part : goal.returns-clause-part
returns-clause-part c =
    let slots = c.args.slots.now.items in
    let part = c.args.part.now in
    let held = c.index_mut.result.now in
    let there = content-read part.slot slots held c.requires ∙ sym c.index_mut.ensures.value in
    same_part (c.exchange.ensures.content ∙ ap (taken_out part.content) (sym there))

pub returns-clause-same : goal.returns-clause-same
returns-clause-same c state =
    let slots = c.args.slots.now.items in
    let part = c.args.part.now in
    let held = c.index_mut.result.now in
    map-set_same profile_in slots part.slot c.exchange.new.slot held
    (ap profile_in c.exchange.ensures.slot ∙ state-keeps part held state ∙ ap profile_in c.index_mut.ensures.value)
