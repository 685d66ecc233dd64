use Rattle.std.proofs.Common.{◌≡◌, ◌++◌, OnOk, refl, subst}
use Rattle.aatry_session.specs.SeenSessions.{seen_session}
use Rattle.aatry_session.specs.Turns.{line_obeyed, reply_told}
use Rattle.aatry_session.proofs.ObeyLemmas.{left-other, obeyed-other}
use Rattle.aatry_session.proofs.obeying.obey_other.Goals as goal

pub returns-clause-told : goal.returns-clause-told
returns-clause-told c =
    let files = c.args.files.now in
    let base = c.args.base.now in
    let before = seen_session c.args.manager.now c.args.changes.now in
    let after = seen_session c.reply_behind-reply.new.manager c.args.changes.now in
    let old = c.args.out.now.items in
    let new = c.push_reply.new.out.items in
    let reply = c.reply_behind-reply.result in
    let told = subst (λ language. OnOk c.push_reply.result (new ≡ old ++ reply_told language files base after.texts c.depth-from.result c.depth-to.result reply)) c.language.ensures
    (subst (λ texts. OnOk c.push_reply.result (new ≡ old ++ reply_told c.language.result files base texts c.depth-from.result c.depth-to.result reply)) c.deref.ensures.value
    c.push_reply.ensures) in
    obeyed-other c.push_reply.result files base before after (line_obeyed files c.args.changes.now.loaded c.args.manager.now c.args.line.now) old new
    c.reply_behind-reply.ensures.0 reply c.depth-from.result c.depth-to.result c.reply_behind-reply.ensures.1 refl refl refl c.depth-from.ensures
    c.depth-to.ensures told

pub returns-clause-left : goal.returns-clause-left
returns-clause-left c =
    let before = seen_session c.args.manager.now c.args.changes.now in
    let after = seen_session c.reply_behind-reply.new.manager c.args.changes.now in
    left-other c.push_reply.result c.args.files.now before after (line_obeyed c.args.files.now c.args.changes.now.loaded c.args.manager.now c.args.line.now)
    c.reply_behind-reply.ensures.0 c.reply_behind-reply.result c.reply_behind-reply.ensures.1 refl refl refl
