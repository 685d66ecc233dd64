-- Moments: a day of the calendar and a time of the day, by the definitions of the Gregorian calendar that `httpdate` has.
use Rattle.std.specs.Prelude.{ℕ, zero, suc, Bool, ◌+◌, ◌-◌, ◌/◌, ◌%◌, ◌&&◌, nat_le, nat_lt, if◌then◌else◌}
use Rattle.httpdate.specs.Calendar.{IsCivilDate, IsTimeOfDay, days_in_month, days_in_year, seconds_from_civil}
use Rattle.aatry_words.specs.declared.moments.Moment.{Moment}

-- a moment is one of the calendar's, from 1970 to 9999, and the clock has its time
abbrev pub IsMoment : Moment → Type 0
IsMoment moment = IsCivilDate moment.year moment.month moment.day × IsTimeOfDay moment.hour moment.minute moment.second

-- a moment is one of the calendar and the clock, as a test
abbrev pub is_moment : Moment → Bool
is_moment moment =
    nat_le 1970 moment.year && nat_le moment.year 9999 && nat_le 1 moment.month && nat_le moment.month 12
    && nat_le 1 moment.day && nat_le moment.day (days_in_month moment.year moment.month)
    && nat_lt moment.hour 24 && nat_lt moment.minute 60 && nat_lt moment.second 60

-- the seconds from the start of 1970 to a moment
abbrev pub seconds_to : Moment → ℕ
seconds_to moment = seconds_from_civil moment.year moment.month moment.day moment.hour moment.minute moment.second

-- The year of a day, by how many days it is after the start of a year, and how many days it is after the start of that year: whole years are counted
-- off, so many at most.
unfoldable pub year_in : (most year days : ℕ) → ℕ × ℕ
year_in zero year days = (year, days)
year_in (suc most) year days = if nat_lt days (days_in_year year) then (year, days) else year_in most (year + 1) (days - days_in_year year)

-- the month of a day, likewise
unfoldable pub month_in : (most year month days : ℕ) → ℕ × ℕ
month_in zero year month days = (month, days)
month_in (suc most) year month days =
    if nat_lt days (days_in_month year month) then (month, days) else month_in most year (month + 1) (days - days_in_month year month)

-- how many years there are, and months of a year
abbrev pub most_years : ℕ
most_years = 8030

abbrev pub most_months : ℕ
most_months = 12

-- the moment of a year, a month with how many of its days are past, and how many seconds of the day are
abbrev pub moment_with : (year : ℕ) → ℕ × ℕ → (seconds : ℕ) → Moment
moment_with year month seconds = record {
  year = year;
  month = month.0;
  day = month.1 + 1;
  hour = seconds / 3600;
  minute = seconds % 3600 / 60;
  second = seconds % 60;
}

-- the moment by a year with how many of its days are past
abbrev pub moment_in : ℕ × ℕ → (seconds : ℕ) → Moment
moment_in year seconds = moment_with year.0 (month_in most_months year.0 1 year.1) seconds

-- the moment so many seconds after the start of 1970
abbrev pub moment_of : ℕ → Moment
moment_of seconds = moment_in (year_in most_years 1970 (seconds / 86400)) (seconds % 86400)
