use Rattle.std.proofs.lemmas.Result.{on_ok_weaker}
use Rattle.aa_set.proofs.RunLemmas.{IsAfter-more}
use Rattle.aa_set.proofs.BreakLemmas.{front-line}
use Rattle.aa_set.proofs.StreamLemmas.{weaker_err}
use Rattle.aa_set.proofs.session.answer.Goals as goal

pub returns-clause-ok : goal.returns-clause-ok
returns-clause-ok g c =
    let flagged = c.reply_to-reply.ensures in
    on_ok_weaker c.write_reply.result (λ behind begin before lines after. (
      flagged.0,
      IsAfter-more c.args.files.now begin c.args.line.now flagged.0 c.reply_to-reply.result after flagged.1 behind c.count.ensures.accepted c.count.ensures.refused,
    ))
    c.write_reply.ensures.ok

pub returns-clause-err : goal.returns-clause-err
returns-clause-err g c =
    let flagged = c.reply_to-reply.ensures in
    weaker_err c.write_reply.result (λ broken begin before lines after. (
      flagged.0,
      front-line c.args.files.now begin (g.W.Sink.written c.write_reply.new.writer) c.args.line.now flagged.0 c.reply_to-reply.result c.reply_to-reply.new.manager after flagged.1 broken,
    ))
    c.write_reply.ensures.err
