-- The days of years and months, one more at a time, and years and months counted off.
use Rattle.std.proofs.Common.{◌≡◌, ℕ, suc, ◌+◌, ◌-◌, ◌<◌, ◌≤◌, nat_lt, true, false, refl, ap, arith}
use Rattle.std.proofs.lemmas.Bool.Decides.{nat_tests}
use Rattle.httpdate.specs.Calendar.{days_in_month, days_in_year, days_of_months, days_of_years}
use Rattle.aatry_words.specs.Moments.{month_in, year_in}

-- one year more
pub years_more : (before days : ℕ) → 1970 ≤ before → days ≡ days_of_years (before - 1970) → days + days_in_year before ≡ days_of_years (before + 1 - 1970)
unfolding days_of_years
years_more before days h sum =
    let next : before + 1 - 1970 ≡ suc (before - 1970) = omega arith in
    let year : 1970 + (before - 1970) ≡ before = omega arith in
    rw (next, year) (ap (λ n. n + days_in_year before) sum)

-- one month more
pub months_more : (year before days : ℕ) → 1 ≤ before → days ≡ days_of_months year (before - 1)
    → days + days_in_month year before ≡ days_of_months year (before + 1 - 1)
unfolding days_of_months
months_more year before days h sum =
    let next : before + 1 - 1 ≡ suc (before - 1) = omega arith in
    let month : suc (before - 1) ≡ before = omega arith in
    rw (next, month) (ap (λ n. n + days_in_month year before) sum)

-- the year in which a day lies
pub year_here : (most count year days : ℕ) → count < most → days < days_in_year year → year_in (most - count) year days ≡ (year, days)
unfolding year_in
year_here most count year days h inside =
    let next : most - count ≡ suc (most - (count + 1)) = omega arith in
    let less : nat_lt days (days_in_year year) ≡ true = grind (arith, nat_tests) in
    rw (next, less) refl

pub year_later : (most count year days : ℕ) → count < most → days_in_year year ≤ days
    → year_in (most - count) year days ≡ year_in (most - (count + 1)) (year + 1) (days - days_in_year year)
unfolding year_in
year_later most count year days h behind =
    let next : most - count ≡ suc (most - (count + 1)) = omega arith in
    let less : nat_lt days (days_in_year year) ≡ false = grind (arith, nat_tests) in
    rw (next, less) refl

pub year_none : (most count year days : ℕ) → most ≤ count → year_in (most - count) year days ≡ (year, days)
unfolding year_in
year_none most count year days h = let none : most - count ≡ 0 = omega arith in rw none refl

-- the month in which a day lies
pub month_here : (most count year month days : ℕ) → count < most → days < days_in_month year month → month_in (most - count) year month days ≡ (month, days)
unfolding month_in
month_here most count year month days h inside =
    let next : most - count ≡ suc (most - (count + 1)) = omega arith in
    let less : nat_lt days (days_in_month year month) ≡ true = grind (arith, nat_tests) in
    rw (next, less) refl

pub month_later : (most count year month days : ℕ) → count < most → days_in_month year month ≤ days
    → month_in (most - count) year month days ≡ month_in (most - (count + 1)) year (month + 1) (days - days_in_month year month)
unfolding month_in
month_later most count year month days h behind =
    let next : most - count ≡ suc (most - (count + 1)) = omega arith in
    let less : nat_lt days (days_in_month year month) ≡ false = grind (arith, nat_tests) in
    rw (next, less) refl

pub month_none : (most count year month days : ℕ) → most ≤ count → month_in (most - count) year month days ≡ (month, days)
unfolding month_in
month_none most count year month days h = let none : most - count ≡ 0 = omega arith in rw none refl
