use Rattle.std.proofs.Common.{rules}
use Rattle.aa_decide_ready.specs.Slots.{filled}
use Rattle.aa_decide.specs.SeenExec.{seen_asker}
use Rattle.aa_decide.proofs.SeenLemmas.{seen_carried, seen_nowhere}
use Rattle.aa_decide.proofs.execution.carried_out.Goals as goal

pub returns-in-None : goal.returns-in-None
returns-in-None c =
    seen_nowhere c.args.path.now (filled c.args.slots.now) (seen_asker c.args.asker) c.args.mediation c.args.transition.now c.args.audited c.args.slots.now c.in_ok-led_by.field-0 c.missing.result
    c.in_ok-led_by.ensures c.in-None.is (c.missing.ensures c.args.slots.now)

pub returns-in-Some : goal.returns-in-Some
returns-in-Some c =
    seen_carried c.args.path.now (filled c.args.slots.now) (seen_asker c.args.asker) c.args.mediation c.args.transition.now c.args.audited c.args.slots.now c.in-Some.to c.started.result
    (search rules) c.started.ensures.verdict c.started.ensures.to (search rules)
