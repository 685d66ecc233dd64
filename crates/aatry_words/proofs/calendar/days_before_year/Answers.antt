use Rattle.std.proofs.Common.{◌≡◌, ◌+◌, ◌-◌, refl, arith, ap, ◌∙◌}
use Rattle.httpdate.specs.Calendar.{days_of_years}
use Rattle.aatry_words.proofs.CalendarLemmas.{years_more}
use Rattle.aatry_words.proofs.calendar.days_before_year.Goals as goal

pub loop-before-init : goal.loop-before-init
unfolding days_of_years
loop-before-init c = record { sum = refl; few = omega arith }

pub loop-before-preserved : goal.loop-before-preserved
loop-before-preserved c =
    let so_far = c.loop-before.invariant in
    let before = c.loop-before.before in
    record {
      sum = ap (λ n. c.loop-before.days + n) c.days_in_year-days.ensures.value ∙ years_more before c.loop-before.days c.loop-before.auto.before so_far.sum;
      few = omega (arith, so_far.few, c.days_in_year-days.ensures.few, c.loop-before.auto.before);
    }

pub returns-clause-value : goal.returns-clause-value
returns-clause-value c =
    let same : c.loop-before.before ≡ c.args.year = omega (arith, c.requires.first, c.loop-before.auto.before-end, c.loop-before-test.false) in
    c.loop-before.invariant.sum ∙ ap (λ year. days_of_years (year - 1970)) same

pub returns-clause-few : goal.returns-clause-few
returns-clause-few c = omega (arith, c.loop-before.invariant.few, c.requires.first, c.requires.last, c.loop-before.auto.before-end)
