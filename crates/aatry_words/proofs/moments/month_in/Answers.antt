use Rattle.std.proofs.Common.{◌≡◌, ◌<◌, ◌≤◌, ◌+◌, ◌-◌, arith, ap, sym, subst, ◌∙◌}
use Rattle.httpdate.specs.Calendar.{days_in_month}
use Rattle.aatry_words.specs.Moments.{month_in, most_months}
use Rattle.aatry_words.proofs.CalendarLemmas.{month_here, month_later, month_none}
use Rattle.aatry_words.proofs.moments.month_in.Goals as goal

pub returns-then-left-size-clause-value : goal.returns-then-left-size-clause-value
returns-then-left-size-clause-value c =
    let month = c.loop-count.month in
    let left = c.loop-count.left in
    let inside : left < days_in_month c.args.year month = subst (λ size. left < size) c.days_in_month-size.ensures.value c.if-left-size.true in
    sym (month_here most_months c.loop-count._count c.args.year month left c.loop-count-test.true inside) ∙ c.loop-count.invariant.same

pub loop-count-preserved : goal.loop-count-preserved
loop-count-preserved c =
    let so_far = c.loop-count.invariant in
    let month = c.loop-count.month in
    let left = c.loop-count.left in
    let size = c.days_in_month-size.ensures.value in
    let behind : days_in_month c.args.year month ≤ left = subst (λ size. size ≤ left) size c.if-left-size.false in
    record {
      same = ap (λ size. month_in (most_months - (c.loop-count._count + 1)) c.args.year (month + 1) (left - size)) size
          ∙ sym (month_later most_months c.loop-count._count c.args.year month left c.loop-count-test.true behind) ∙ so_far.same;
      place = omega (arith, so_far.place);
      few = omega (arith, so_far.few);
    }

pub returns-clause-value : goal.returns-clause-value
returns-clause-value c =
    sym (month_none most_months c.loop-count._count c.args.year c.loop-count.month c.loop-count.left c.loop-count-test.false) ∙ c.loop-count.invariant.same
