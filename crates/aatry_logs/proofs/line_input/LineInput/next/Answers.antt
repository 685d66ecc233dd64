use Rattle.std.proofs.Common.{◌++◌, ◌∙◌, arith, inr, sym}
use Rattle.aatry_logs.specs.OpenedInputs.{BreaksOff}
use Rattle.aatry_logs.proofs.LineInputLemmas.{at_err, breaks_off, held_more, input_ends, line_ends, more_comes}
use Rattle.aatry_logs.proofs.line_input.LineInput.next.Goals as goal

-- a line ends in what waits
pub returns-then-take_line-clause-given : goal.returns-then-take_line-clause-given
returns-then-take_line-clause-given g c =
    let so_far = c.loop-count.invariant in
    let ended = c.take_line.ensures.ended c.if-take_line.true in
    line_ends (g.S.Source.left c.args.reader.now) (g.S.Source.left c.loop-count.reader) c.args.self.now c.loop-count.self ended.0 c.take_line.new.self so_far.0
    c.loop-count.line c.take_line.new.line so_far.1 so_far.2 ended.1 ended.2 ended.3

-- nothing more is read
pub returns-then-branch-eq0-clause-given : goal.returns-then-branch-eq0-clause-given
returns-then-branch-eq0-clause-given g c =
    let so_far = c.loop-count.invariant in
    let all = c.take_line.ensures.all c.if-take_line.false in
    let comes = more_comes (g.S.Source.left c.args.reader.now) (g.S.Source.left c.loop-count.reader) (g.S.Source.left c.fill.new.reader) c.args.self.now c.loop-count.self
    c.fill.new.self so_far.0 so_far.1 all.0 c.in_ok-fill.ensures.bytes in
    input_ends (g.S.Source.left c.args.reader.now) (g.S.Source.left c.fill.new.reader) c.args.self.now c.fill.new.self (so_far.0 ++ c.loop-count.self) c.take_line.new.line
    c.is_empty.result comes (sym c.in_ok-fill.ensures.size ∙ c.if-branch-eq0.true)
    (held_more so_far.0 c.loop-count.self c.loop-count.line c.take_line.new.line so_far.2 all.2) (c.in_ok-fill.ensures.end c.if-branch-eq0.true) c.is_empty.ensures

-- more is read
pub loop-count-preserved : goal.loop-count-preserved
loop-count-preserved g c =
    let so_far = c.loop-count.invariant in
    let all = c.take_line.ensures.all c.if-take_line.false in (
      so_far.0 ++ c.loop-count.self,
      more_comes (g.S.Source.left c.args.reader.now) (g.S.Source.left c.loop-count.reader) (g.S.Source.left c.fill.new.reader) c.args.self.now c.loop-count.self
          c.fill.new.self so_far.0 so_far.1 all.0 c.in_ok-fill.ensures.bytes,
      held_more so_far.0 c.loop-count.self c.loop-count.line c.take_line.new.line so_far.2 all.2,
      omega (arith, so_far.3, c.fill.ensures.counted),
      c.in_ok-fill.ensures.ok ∙ so_far.4,
    )

-- no more can be read
pub returns-in_err-fill-clause-broken : goal.returns-in_err-fill-clause-broken
returns-in_err-fill-clause-broken g c =
    let so_far = c.loop-count.invariant in
    let all = c.take_line.ensures.all c.if-take_line.false in
    at_err c.from_residual.result
    (BreaksOff (g.S.Source.left c.args.reader.now) (g.S.Source.left c.fill.new.reader) c.args.self.now c.fill.new.self c.take_line.new.line)
    (breaks_off (g.S.Source.left c.args.reader.now) (g.S.Source.left c.loop-count.reader) (g.S.Source.left c.fill.new.reader) c.args.self.now c.loop-count.self
    c.fill.new.self so_far.0 c.loop-count.line c.take_line.new.line so_far.1 so_far.2 all.0 all.2 c.in_err-fill.ensures.kept c.in_err-fill.ensures.nothing)

-- there were as many reads as there may be
pub returns-clause-fault : goal.returns-clause-fault
returns-clause-fault g c = inr (omega (arith, c.loop-count.invariant.3, c.loop-count-test.false, c.loop-count.auto._count-end))
