use Rattle.std.proofs.Common.{length, ap, ◌∙◌}
use Rattle.aa_decide_ready.specs.Slots.{filled}
use Rattle.aa_set_manager.proofs.PartLemmas.{unloading-long, unloading-seen, unloading-within}
use Rattle.aa_set_parts.specs.Parts.{Reaching, after}
use Rattle.aa_set_manager.proofs.loading.unloading.Goals as goal

pub of-requires : goal.of-requires
of-requires c =
    unloading-within c.args.profiles.now c.args.slots.now c.end.result c.args.found.now c.in_ok-parts.parts.items c.end.ensures.end c.requires.found c.in_ok-parts.ensures

pub returns-clause-taken : goal.returns-clause-taken
returns-clause-taken c =
    ap (λ (exchange : Reaching). filled (after c.args.slots.now exchange.parts)) c.of.ensures
    ∙ unloading-seen c.args.profiles.now c.args.slots.now c.args.found.now c.in_ok-parts.parts.items c.requires.found c.in_ok-parts.ensures c.requires.own c.requires.apart c.requires.all

pub returns-clause-parts : goal.returns-clause-parts
returns-clause-parts c =
    ap (λ (exchange : Reaching). length exchange.parts) c.of.ensures
    ∙ unloading-long c.args.profiles.now c.args.slots.now c.args.found.now c.in_ok-parts.parts.items c.requires.found c.in_ok-parts.ensures c.requires.all
