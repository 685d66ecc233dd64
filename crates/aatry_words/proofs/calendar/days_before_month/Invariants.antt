use Rattle.std.proofs.Common.{◌≡◌, ◌≤◌, ◌*◌, ◌-◌}
use Rattle.httpdate.specs.Calendar.{days_of_months}
use Rattle.aatry_words.proofs.calendar.days_before_month.Given as goal

-- the days of the months so far
abbrev pub invariant-loop-before : goal.invariant-loop-before
invariant-loop-before l = record { sum : l.days ≡ days_of_months l.year (l.before - 1); few : l.days ≤ 31 * (l.before - 1) }
