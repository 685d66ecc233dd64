use Rattle.std.proofs.Common.{length, ap, ◌∙◌, arith}
use Rattle.aa_decide_ready.specs.Slots.{filled}
use Rattle.aa_set_manager.specs.code.Places.{filling}
use Rattle.aa_set_manager.proofs.PartLemmas.{length-filling, length-found, length-placed, loading-seen, loading-within}
use Rattle.aa_set_parts.specs.Parts.{Reaching, after}
use Rattle.aa_set_manager.proofs.loading.loading.Goals as goal

pub places-requires : goal.places-requires
places-requires c =
    let long = length-found c.args.profiles.items c.args.slots.now c.args.found.now c.requires.found in
    let small = c.args.profiles.small in
    let end = c.end-reach.ensures.small in
    omega arith

pub filling-requires-clause-each : goal.filling-requires-clause-each
filling-requires-clause-each c =
    ap length c.deref.ensures.value
    ∙ length-placed c.args.profiles.items c.args.slots.now c.end-reach.result c.args.found.now c.in_ok-places.places.items c.requires.found c.in_ok-places.ensures.places

pub of-requires : goal.of-requires
of-requires c =
    loading-within c.args.set c.args.profiles.items c.args.slots.now c.end-reach.result c.places.new.next c.args.found.now c.in_ok-places.places.items c.in_ok-parts.parts.items
    c.end-reach.ensures.end c.requires.found c.in_ok-places.ensures.places c.in_ok-places.ensures.next (c.in_ok-parts.ensures ∙ ap (filling c.args.set c.args.profiles.items) c.deref.ensures.value)

pub returns-clause-put : goal.returns-clause-put
returns-clause-put c =
    ap (λ (exchange : Reaching). filled (after c.args.slots.now exchange.parts)) c.of.ensures
    ∙ loading-seen c.args.set c.args.profiles.items c.args.slots.now c.end-reach.result c.args.found.now c.in_ok-places.places.items c.in_ok-parts.parts.items
    c.end-reach.ensures.end c.requires.found c.in_ok-places.ensures.places (c.in_ok-parts.ensures ∙ ap (filling c.args.set c.args.profiles.items) c.deref.ensures.value) c.requires.own

pub returns-clause-parts : goal.returns-clause-parts
returns-clause-parts c =
    ap (λ (exchange : Reaching). length exchange.parts) c.of.ensures
    ∙ ap length (c.in_ok-parts.ensures ∙ ap (filling c.args.set c.args.profiles.items) c.deref.ensures.value)
    ∙ length-filling c.args.set c.args.profiles.items c.in_ok-places.places.items
    (length-placed c.args.profiles.items c.args.slots.now c.end-reach.result c.args.found.now c.in_ok-places.places.items c.requires.found c.in_ok-places.ensures.places)
