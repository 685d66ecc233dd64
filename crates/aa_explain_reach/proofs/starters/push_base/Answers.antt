use Rattle.std.proofs.Common.{subst, sym}
use Rattle.std.proofs.lemmas.Result.{on_ok_weaker}
use Rattle.aa_explain_reach.specs.Starters.{slot_base_starters}
use Rattle.aa_explain_reach.specs.code.Going.{Appends}
use Rattle.aa_explain_reach.proofs.starters.push_base.Goals as goal

pub returns-in-Unconfined : goal.returns-in-Unconfined
returns-in-Unconfined c =
    let slots = c.args.slots.now in
    on_ok_weaker c.push_no_one.result
    (λ appends. subst (λ b. Appends slots (slot_base_starters slots b) c.args.starters.now.items c.push_no_one.new.starters.items) (sym c.in-Unconfined.is) (appends slots))
    c.push_no_one.ensures
