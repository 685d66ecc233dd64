use Rattle.std.proofs.Common.{OnOk, subst}
use Rattle.aatry_session.specs.SeenSessions.{seen_session}
use Rattle.aatry_session.specs.Turns.{ObeysAs, line_obeyed}
use Rattle.aatry_session.proofs.obeying.obey.Goals as goal

pub returns-in-Some-clause-told : goal.returns-in-Some-clause-told
returns-in-Some-clause-told c =
    subst (λ change. OnOk c.obey_change.result (ObeysAs c.args.files.now c.args.base.now (seen_session c.args.manager.now c.args.changes.now)
    (seen_session c.obey_change.new.manager c.obey_change.new.changes) change (line_obeyed c.args.files.now c.args.changes.now.loaded c.args.manager.now c.args.line.now) c.args.out.now.items
    c.obey_change.new.out.items)) c.in-Some.ensures c.obey_change.ensures.told
