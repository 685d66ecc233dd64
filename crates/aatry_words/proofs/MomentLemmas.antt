-- The years and months that are counted off are those of the calendar.
use Rattle.std.proofs.Common.{◌≡◌, ◌∙◌, ℕ, zero, suc, ◌+◌, ◌-◌, ◌*◌, ◌/◌, ◌%◌, ◌<◌, ◌≤◌, nat_lt, Bool, true, false, refl, ap, sym, subst, arith}
use Rattle.std.proofs.lemmas.Bool.Decides.{nat_tests}
use Rattle.httpdate.specs.Calendar.{days_in_month, days_in_year, days_of_months, days_of_years}
use Rattle.httpdate.proofs.CalendarLemmas.{days_of_months_all, days_of_years_closed}
use Rattle.aatry_words.specs.Moments.{IsMoment, moment_of, month_in, most_months, most_years, seconds_to, year_in}
use Rattle.aatry_words.specs.Numbers.{end_of_times}

-- the year of a day that stands behind so many years from 1970 on and some days
record IsYearOf (past most days : ℕ) (year : ℕ × ℕ) : Type 0 where
  from : 1970 + past ≤ year.0
  to : year.0 < 1970 + (past + most)
  sum : days_of_years (year.0 - 1970) + year.1 ≡ days_of_years past + days
  inside : year.1 < days_in_year year.0

year_found : (most past days : ℕ) → days_of_years past + days < days_of_years (past + most) → IsYearOf past most days (year_in most (1970 + past) days)
unfolding days_of_years year_in
year_found zero past days h = let same : past + 0 ≡ past = omega arith in absurd (omega (arith, ap days_of_years same))
year_found (suc most) past days h = by (nat_lt days (days_in_year (1970 + past))) refl (year_found most (suc past) (days - days_in_year (1970 + past)))
  where
    by : (here : Bool) → nat_lt days (days_in_year (1970 + past)) ≡ here
        → (days_of_years (suc past) + (days - days_in_year (1970 + past)) < days_of_years (suc past + most)
        → IsYearOf (suc past) most (days - days_in_year (1970 + past)) (year_in most (1970 + suc past) (days - days_in_year (1970 + past))))
        → IsYearOf past (suc most) days (year_in (suc most) (1970 + past) days)
    by true e later =
        let back : 1970 + past - 1970 ≡ past = omega arith in
        let less : days < days_in_year (1970 + past) = grind (arith, nat_tests, e) in
        rw e (record { from = omega arith; to = omega arith; sum = ap (λ n. days_of_years n + days) back; inside = less })
    by false e later =
        let more : days_in_year (1970 + past) ≤ days = grind (arith, nat_tests, e) in
        let all : past + suc most ≡ suc past + most = omega arith in
        let next : 1970 + suc past ≡ 1970 + past + 1 = omega arith in
        let found = later (omega (arith, ap days_of_years all)) in
        let same : IsYearOf (suc past) most (days - days_in_year (1970 + past)) (year_in most (1970 + past + 1) (days - days_in_year (1970 + past))) =
        subst (λ year. IsYearOf (suc past) most (days - days_in_year (1970 + past)) (year_in most year (days - days_in_year (1970 + past)))) next found in
        rw e (record { from = omega arith; to = omega arith; sum = same.sum ∙ omega arith; inside = same.inside })

-- the month of a day of a year, likewise
record IsMonthOf (of past most days : ℕ) (month : ℕ × ℕ) : Type 0 where
  from : 1 + past ≤ month.0
  to : month.0 < 1 + (past + most)
  sum : days_of_months of (month.0 - 1) + month.1 ≡ days_of_months of past + days
  inside : month.1 < days_in_month of month.0

month_found : (most year past days : ℕ) → days_of_months year past + days < days_of_months year (past + most)
    → IsMonthOf year past most days (month_in most year (1 + past) days)
unfolding days_of_months month_in
month_found zero year past days h = let same : past + 0 ≡ past = omega arith in absurd (omega (arith, ap (days_of_months year) same))
month_found (suc most) year past days h = by (nat_lt days (days_in_month year (1 + past))) refl (month_found most year (suc past) (days - days_in_month year (1 + past)))
  where
    first : days_of_months year (suc past) ≡ days_of_months year past + days_in_month year (1 + past)
    first = let same : suc past ≡ 1 + past = omega arith in ap (λ month. days_of_months year past + days_in_month year month) same

    by : (here : Bool) → nat_lt days (days_in_month year (1 + past)) ≡ here
        → (days_of_months year (suc past) + (days - days_in_month year (1 + past)) < days_of_months year (suc past + most)
        → IsMonthOf year (suc past) most (days - days_in_month year (1 + past)) (month_in most year (1 + suc past) (days - days_in_month year (1 + past))))
        → IsMonthOf year past (suc most) days (month_in (suc most) year (1 + past) days)
    by true e later =
        let back : 1 + past - 1 ≡ past = omega arith in
        let less : days < days_in_month year (1 + past) = grind (arith, nat_tests, e) in
        rw e (record { from = omega arith; to = omega arith; sum = ap (λ n. days_of_months year n + days) back; inside = less })
    by false e later =
        let more : days_in_month year (1 + past) ≤ days = grind (arith, nat_tests, e) in
        let all : past + suc most ≡ suc past + most = omega arith in
        let next : 1 + suc past ≡ 1 + past + 1 = omega arith in
        let found = later (omega (arith, first, ap (days_of_months year) all)) in
        let same : IsMonthOf year (suc past) most (days - days_in_month year (1 + past)) (month_in most year (1 + past + 1) (days - days_in_month year (1 + past))) =
        subst (λ month. IsMonthOf year (suc past) most (days - days_in_month year (1 + past)) (month_in most year month (days - days_in_month year (1 + past)))) next found in
        rw e (record { from = omega arith; to = omega arith; sum = same.sum ∙ omega (arith, first); inside = same.inside })

-- of each time, by the year and the month that are counted off
year_of_time : (seconds : ℕ) → seconds < end_of_times → IsYearOf 0 most_years (seconds / 86400) (year_in most_years 1970 (seconds / 86400))
year_of_time seconds h = year_found most_years 0 (seconds / 86400) (omega (arith, days_of_years_closed 8030, days_of_years_closed 0))

month_of_time : (year days : ℕ) → days < days_in_year year → IsMonthOf year 0 most_months days (month_in most_months year 1 days)
unfolding days_of_months
month_of_time year days inside = month_found most_months year 0 days (omega (arith, days_of_months_all year))

pub are_moments : (seconds : ℕ) → seconds < end_of_times → IsMoment (moment_of seconds)
are_moments seconds h =
    let year = year_of_time seconds h in
    let found = year_in most_years 1970 (seconds / 86400) in
    let month = month_of_time found.0 found.1 year.inside in (
      ((year.from, omega (arith, year.to)), (month.from, omega (arith, month.to)), (omega arith, omega (arith, month.inside))),
      (omega arith, omega arith, omega arith),
    )

pub are_seconds : (seconds : ℕ) → seconds < end_of_times → seconds_to (moment_of seconds) ≡ seconds
unfolding days_of_months days_of_years
are_seconds seconds h =
    let year = year_of_time seconds h in
    let found = year_in most_years 1970 (seconds / 86400) in
    let month = month_of_time found.0 found.1 year.inside in
    omega (arith, year.sum, month.sum)
