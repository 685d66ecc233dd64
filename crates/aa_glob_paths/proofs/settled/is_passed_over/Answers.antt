use Rattle.std.proofs.Common.{get_or, true≢false, sym}
use Rattle.aa_glob_pairs.proofs.EndLemmas.{end_among}
use Rattle.aa_glob_paths.proofs.settled.is_passed_over.Goals as goal

pub bounds-classes-end : goal.bounds-classes-end
bounds-classes-end c =
    c.requires.classed.each_pattern c.args.state _ (end_among c.args.tables.now c.args.state c.loop-end.end-index c.ends_of-end-items.result.now _ c.ends_of-end-items.ensures.only c.loop-end-test.true)

pub returns : goal.returns
returns c = λ is. absurd (true≢false (sym is))

pub returns-then-classes-end-eq-PASSED_OVER : goal.returns-then-classes-end-eq-PASSED_OVER
returns-then-classes-end-eq-PASSED_OVER c = λ is past at.
    let ends = c.ends_of-end-items.result.now in
    let end = get_or ends c.loop-end.end-index (record { state = 0; pattern = 0 }) in
    (end.pattern, c.if-classes-end-eq-PASSED_OVER.true, (c.args.state, end_among c.args.tables.now c.args.state c.loop-end.end-index ends _ c.ends_of-end-items.ensures.only c.loop-end-test.true, at))
