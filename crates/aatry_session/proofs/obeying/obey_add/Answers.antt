use Rattle.std.proofs.Common.{◌≡◌, ◌∙◌, ◌++◌, OnOk, ap, subst}
use Rattle.aa_set_commands.specs.Command.{Add}
use Rattle.aatry_session.specs.Changes.{kept_with}
use Rattle.aatry_session.specs.SeenSessions.{seen_session}
use Rattle.aatry_session.specs.Turns.{file_added, reply_told}
use Rattle.aatry_session.proofs.ObeyLemmas.{obeyed-change}
use Rattle.aatry_session.proofs.obeying.obey_add.Goals as goal

pub returns-clause-told : goal.returns-clause-told
returns-clause-told c =
    let before = seen_session c.args.manager.now c.args.changes.now in
    let after = seen_session c.add-made.new.manager c.keep_and_tell.new.changes in
    let reply = c.add-made.result.reply in
    obeyed-change c.keep_and_tell.result c.args.files.now c.args.base.now before after (Add c.args.name.now) (file_added c.args.files.now c.args.manager.now c.args.name.now) c.args.out.now.items c.keep_and_tell.new.out.items
    (record {
      flag = c.add-made.ensures.reply.0;
      reply = reply;
      own = c.add-made.result.origins;
      done = c.depth-done.result;
      text = c.in_ok-text.text;
      is = c.add-made.ensures.reply.1;
      loaded = c.add-made.ensures.origins;
      first = c.depth-done.ensures;
      named = c.in_ok-text.ensures;
      texts = c.keep_and_tell.ensures.texts ∙ ap (kept_with c.depth-done.result c.in_ok-text.text reply) c.make_room.ensures.texts;
      origins = c.keep_and_tell.ensures.origins ∙ ap (kept_with c.depth-done.result c.add-made.result.origins reply) c.make_room.ensures.origins;
      left_out = c.keep_and_tell.ensures.loaded ∙ c.make_room.ensures.loaded;
    })
    (subst (λ language. OnOk c.keep_and_tell.result (c.keep_and_tell.new.out.items
    ≡ c.args.out.now.items ++ reply_told language c.args.files.now c.args.base.now after.texts c.depth-done.result c.depth-done.result reply)) c.language.ensures c.keep_and_tell.ensures.told)
