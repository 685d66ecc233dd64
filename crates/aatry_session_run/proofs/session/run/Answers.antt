use Rattle.std.proofs.Common.{◌∷◌, arith, inl}
use Rattle.std.proofs.lemmas.Result.{err_from_is_err_and}
use Rattle.aatry_session_run.specs.code.Sessions.{standing}
use Rattle.aatry_session_run.proofs.session.run.Goals as goal

pub step-requires : goal.step-requires
step-requires g c = omega (arith, c.loop-count.invariant.reads, c.requires, c.loop-count-test.true)

-- the fault of a step, behind those so far
pub returns-in_err-goes-clause-broken : goal.returns-in_err-goes-clause-broken
returns-in_err-goes-clause-broken g c =
    let p = err_from_is_err_and c.from_residual.result c.from_residual.ensures.1 in
    let so_far = c.loop-count.invariant.answers in
    rw (p.1, p.2) (
      so_far.0,
      standing (g.S.Source.left c.loop-count.reader) c.loop-count.lines.input (g.W.Sink.written c.loop-count.writer) c.loop-count.table,
      so_far.1,
      inl c.in_err-goes.ensures.broken,
    )

-- the last step, behind those so far
pub returns-then-not-goes-clause-ran : goal.returns-then-not-goes-clause-ran
returns-then-not-goes-clause-ran g c =
    let so_far = c.loop-count.invariant.answers in (
      so_far.0,
      standing (g.S.Source.left c.loop-count.reader) c.loop-count.lines.input (g.W.Sink.written c.loop-count.writer) c.loop-count.table,
      so_far.1,
      c.in_ok-goes.ensures.off c.if-not-goes.true,
    )

-- one step more
pub loop-count-preserved : goal.loop-count-preserved
loop-count-preserved g c =
    let so_far = c.loop-count.invariant in
    let step = c.in_ok-goes.ensures.on c.if-not-goes.false in
    record {
      answers = (
        step.0 ∷ so_far.answers.0,
        (
          standing (g.S.Source.left c.loop-count.reader) c.loop-count.lines.input (g.W.Sink.written c.loop-count.writer) c.loop-count.table,
          so_far.answers.1,
          step.1,
        ),
        omega (arith, so_far.answers.2),
      );
      reads = omega (arith, so_far.reads, c.step.ensures.bound);
    }
