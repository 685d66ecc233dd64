use Rattle.std.proofs.Common.{◌≡◌, ◌<◌, ◌≤◌, ◌+◌, ◌-◌, arith, ap, sym, subst, ◌∙◌}
use Rattle.httpdate.specs.Calendar.{days_in_year}
use Rattle.aatry_words.specs.Moments.{most_years, year_in}
use Rattle.aatry_words.proofs.CalendarLemmas.{year_here, year_later, year_none}
use Rattle.aatry_words.proofs.moments.year_in.Goals as goal

pub returns-then-left-size-clause-value : goal.returns-then-left-size-clause-value
returns-then-left-size-clause-value c =
    let year = c.loop-count.year in
    let left = c.loop-count.left in
    let inside : left < days_in_year year = subst (λ size. left < size) c.days_in_year-size.ensures.value c.if-left-size.true in
    sym (year_here most_years c.loop-count._count year left c.loop-count-test.true inside) ∙ c.loop-count.invariant.same

pub loop-count-preserved : goal.loop-count-preserved
loop-count-preserved c =
    let so_far = c.loop-count.invariant in
    let year = c.loop-count.year in
    let left = c.loop-count.left in
    let size = c.days_in_year-size.ensures.value in
    let behind : days_in_year year ≤ left = subst (λ size. size ≤ left) size c.if-left-size.false in
    record {
      same = ap (λ size. year_in (most_years - (c.loop-count._count + 1)) (year + 1) (left - size)) size
          ∙ sym (year_later most_years c.loop-count._count year left c.loop-count-test.true behind) ∙ so_far.same;
      place = omega (arith, so_far.place);
      few = omega (arith, so_far.few);
    }

pub returns-clause-value : goal.returns-clause-value
returns-clause-value c =
    sym (year_none most_years c.loop-count._count c.loop-count.year c.loop-count.left c.loop-count-test.false) ∙ c.loop-count.invariant.same
