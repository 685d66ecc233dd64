use Rattle.std.proofs.Common.{refl}
use Rattle.std.proofs.lemmas.Result.{on_ok_weaker}
use Rattle.aa_set.proofs.RunLemmas.{Follows-flushed}
use Rattle.aa_set.proofs.BreakLemmas.{front-cut, front-waiting}
use Rattle.aa_set.proofs.StreamLemmas.{weaker_err}
use Rattle.aa_set.proofs.session.turn.Goals as goal

pub returns-clause-ok : goal.returns-clause-ok
returns-clause-ok g c =
    on_ok_weaker c.flush.result (λ flushed begin before input follows.
    Follows-flushed c.args.files.now begin (c.in_ok-feed.ensures.ok begin before input follows) flushed refl refl c.flush.ensures.empty)
    c.flush.ensures.ok

pub returns-clause-err : goal.returns-clause-err
returns-clause-err g c =
    weaker_err c.flush.result (λ broken begin before input follows.
    let fed = c.in_ok-feed.ensures.ok begin before input follows in
    front-cut c.args.files.now begin fed.cut (front-waiting c.args.files.now begin (g.W.Sink.written c.flush.new.writer) fed.after broken))
    c.flush.ensures.err
