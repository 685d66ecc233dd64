use Rattle.std.proofs.Common.{ap, sym, ◌∙◌}
use Rattle.aa_decide.proofs.SlotLemmas.{first-in-force, none-in-force}
use Rattle.aa_decide_ready.specs.Entries.{is_in_force}
use Rattle.aa_decide_ready.specs.Slots.{filled}
use Rattle.aa_decide.proofs.slots.find_in_force.Goals as goal

pub returns-in-None-clause-found : goal.returns-in-None-clause-found
returns-in-None-clause-found c = sym (none-in-force c.args.name.now (filled c.args.slots.now) (sym c.in-None.ensures.found))

pub returns-then-is_in_force-clause-found : goal.returns-then-is_in_force-clause-found
returns-then-is_in_force-clause-found c =
    let force = ap is_in_force (sym c.state.ensures.state) ∙ sym c.is_in_force.ensures ∙ c.if-is_in_force.true in
    sym (first-in-force c.args.name.now (filled c.args.slots.now) c.in-Some.entry.now (sym c.in-Some.ensures.found) force)
