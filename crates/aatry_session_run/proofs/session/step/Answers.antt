use Rattle.std.proofs.Common.{rules, ◌≡◌, ◌∙◌, ◌++◌, ap, inl, inr, subst}
use Rattle.std.proofs.lemmas.Result.{err_from_is_err_and}
use Rattle.std.specs.Io.KnownBytes.{Appends}
use Rattle.aa_set_commands.specs.Streams.{AppendsFront}
use Rattle.aatry_session_run.specs.Session.{IsTurn}
use Rattle.aatry_session_run.specs.code.Sessions.{seen_table}
use Rattle.aatry_session_run.proofs.session.step.Goals as goal

-- a front of what is told of the line was written
pub returns-in_err-show-2-clause-broken : goal.returns-in_err-show-2-clause-broken
returns-in_err-show-2-clause-broken g c =
    let p = err_from_is_err_and c.from_residual-in_err-show-2.result c.from_residual-in_err-show-2.ensures.1 in
    let turn = c.in_ok-goes.ensures.turn in
    let put : c.answer_line.new.out.items ≡ turn.0 = turn.1 ∙ ap (λ t. t ++ turn.0) c.new-text.ensures.items in
    let prompted = g.W.Sink.written c.show.new.writer in
    rw (p.1, p.2, c.in_err-show-2.ensures.fault) (inr (
      c.as_slice.result.now,
      turn.0,
      prompted,
      g.S.Source.left c.next_line.new.reader,
      c.next_line.new.lines.input,
      seen_table c.answer_line.new.table,
      c.in_ok-goes.goes,
      c.in_ok-show.ensures.ok,
      (search rules),
      turn.2,
      subst (AppendsFront prompted (g.W.Sink.written c.show-2.new.writer)) (c.deref.ensures.value ∙ put) c.in_err-show-2.ensures.err,
    ))

-- what is told of the line was written, and the session goes on
pub returns-clause-on : goal.returns-clause-on
returns-clause-on g c = λ goes.
    let folders = g.F.Folders.told c.args.setting.now.folders.now in
    let known = g.D.FileSystem.known c.args.setting.now.disk.now in
    let base = c.args.setting.now.base.now in
    let line = c.as_slice.result.now in
    let turn = c.in_ok-goes.ensures.turn in
    let put : c.answer_line.new.out.items ≡ turn.0 = turn.1 ∙ ap (λ t. t ++ turn.0) c.new-text.ensures.items in
    let prompted = g.W.Sink.written c.show.new.writer in (
      line,
      (
        turn.0,
        prompted,
        c.in_ok-show.ensures.ok,
        (search rules),
        subst (λ on. IsTurn folders known base (seen_table c.args.table.now) line (seen_table c.answer_line.new.table) turn.0 on) goes turn.2,
        subst (Appends prompted (g.W.Sink.written c.show-2.new.writer)) (c.deref.ensures.value ∙ put) c.in_ok-show-2.ensures.ok,
      ),
    )

-- or it ends
pub returns-clause-off : goal.returns-clause-off
returns-clause-off g c = λ goes.
    let folders = g.F.Folders.told c.args.setting.now.folders.now in
    let known = g.D.FileSystem.known c.args.setting.now.disk.now in
    let base = c.args.setting.now.base.now in
    let line = c.as_slice.result.now in
    let turn = c.in_ok-goes.ensures.turn in
    let put : c.answer_line.new.out.items ≡ turn.0 = turn.1 ∙ ap (λ t. t ++ turn.0) c.new-text.ensures.items in
    let prompted = g.W.Sink.written c.show.new.writer in
    inl (
      line,
      (
        turn.0,
        prompted,
        c.in_ok-show.ensures.ok,
        (search rules),
        subst (λ on. IsTurn folders known base (seen_table c.args.table.now) line (seen_table c.answer_line.new.table) turn.0 on) goes turn.2,
        subst (Appends prompted (g.W.Sink.written c.show-2.new.writer)) (c.deref.ensures.value ∙ put) c.in_ok-show-2.ensures.ok,
      ),
    )
