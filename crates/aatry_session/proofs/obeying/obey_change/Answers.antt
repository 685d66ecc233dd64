use Rattle.std.proofs.Common.{◌≡◌, ◌∙◌, ◌++◌, OnOk, ap, subst}
use Rattle.aa_set_commands.specs.Command.{seen_change}
use Rattle.aatry_session.specs.Changes.{kept_with}
use Rattle.aatry_session.specs.SeenSessions.{seen_session}
use Rattle.aatry_session.specs.Turns.{line_obeyed, reply_told}
use Rattle.aatry_session.proofs.ObeyLemmas.{change-obeyed, left-change, obeyed-change}
use Rattle.aatry_session.proofs.obeying.obey_change.Goals as goal

pub returns-clause-told : goal.returns-clause-told
returns-clause-told c =
    let files = c.args.files.now in
    let line = c.args.line.now in
    let loaded = c.args.changes.now.loaded in
    let change = seen_change c.args.change in
    let before = seen_session c.args.manager.now c.args.changes.now in
    let after = seen_session c.make-made.new.manager c.keep_and_tell.new.changes in
    let reply = c.make-made.result.reply in
    let flag = c.make-made.ensures.reply.0 in
    obeyed-change c.keep_and_tell.result files c.args.base.now before after change (line_obeyed files loaded c.args.manager.now line) c.args.out.now.items
    c.keep_and_tell.new.out.items
    (record {
      flag = flag;
      reply = reply;
      own = c.make-made.result.origins;
      done = c.depth-done.result;
      text = c.in_ok-text.text;
      is = c.make-made.ensures.reply.1 ∙ change-obeyed files loaded c.args.manager.now line change flag c.requires;
      loaded = c.make-made.ensures.origins;
      first = c.depth-done.ensures;
      named = c.in_ok-text.ensures;
      texts = c.keep_and_tell.ensures.texts ∙ ap (kept_with c.depth-done.result c.in_ok-text.text reply) c.make_room.ensures.texts;
      origins = c.keep_and_tell.ensures.origins ∙ ap (kept_with c.depth-done.result c.make-made.result.origins reply) c.make_room.ensures.origins;
      left_out = c.keep_and_tell.ensures.loaded ∙ c.make_room.ensures.loaded;
    })
    (subst (λ language. OnOk c.keep_and_tell.result (c.keep_and_tell.new.out.items
    ≡ c.args.out.now.items ++ reply_told language c.args.files.now c.args.base.now after.texts c.depth-done.result c.depth-done.result reply)) c.language.ensures c.keep_and_tell.ensures.told)

pub returns-clause-left : goal.returns-clause-left
returns-clause-left c =
    let files = c.args.files.now in
    let line = c.args.line.now in
    let loaded = c.args.changes.now.loaded in
    let change = seen_change c.args.change in
    let before = seen_session c.args.manager.now c.args.changes.now in
    let after = seen_session c.make-made.new.manager c.keep_and_tell.new.changes in
    let reply = c.make-made.result.reply in
    let flag = c.make-made.ensures.reply.0 in
    left-change c.keep_and_tell.result files before after change (line_obeyed files loaded c.args.manager.now line)
    (record {
      flag = flag;
      reply = reply;
      own = c.make-made.result.origins;
      done = c.depth-done.result;
      text = c.in_ok-text.text;
      is = c.make-made.ensures.reply.1 ∙ change-obeyed files loaded c.args.manager.now line change flag c.requires;
      loaded = c.make-made.ensures.origins;
      first = c.depth-done.ensures;
      named = c.in_ok-text.ensures;
      texts = c.keep_and_tell.ensures.texts ∙ ap (kept_with c.depth-done.result c.in_ok-text.text reply) c.make_room.ensures.texts;
      origins = c.keep_and_tell.ensures.origins ∙ ap (kept_with c.depth-done.result c.make-made.result.origins reply) c.make_room.ensures.origins;
      left_out = c.keep_and_tell.ensures.loaded ∙ c.make_room.ensures.loaded;
    })
