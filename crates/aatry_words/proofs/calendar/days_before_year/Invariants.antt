use Rattle.std.proofs.Common.{◌≡◌, ◌≤◌, ◌*◌, ◌-◌}
use Rattle.httpdate.specs.Calendar.{days_of_years}
use Rattle.aatry_words.proofs.calendar.days_before_year.Given as goal

-- the days of the years so far
abbrev pub invariant-loop-before : goal.invariant-loop-before
invariant-loop-before l = record { sum : l.days ≡ days_of_years (l.before - 1970); few : l.days ≤ 366 * (l.before - 1970) }
