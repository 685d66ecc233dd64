-- Times as they are printed: in UTC, as `2026-11-28 10:20:30`.
use Rattle.std.specs.Prelude.{ℕ, ◌+◌, ◌/◌, ◌%◌, List, [], ◌∷◌, ◌++◌, codes}
use Rattle.aatry_words.specs.Moments.{moment_of}
use Rattle.aatry_words.specs.declared.moments.Moment.{Moment}

-- the last digit of a number
abbrev pub last_digit : ℕ → ℕ
last_digit number = 48 + number % 10

-- the last two digits, and the last four
abbrev pub two_digits : ℕ → List ℕ
two_digits number = last_digit (number / 10) ∷ last_digit number ∷ []

abbrev pub four_digits : ℕ → List ℕ
four_digits number = two_digits (number / 100) ++ two_digits number

-- a day of the calendar
abbrev pub date_text : Moment → List ℕ
date_text moment = four_digits moment.year ++ codes "-" ++ two_digits moment.month ++ codes "-" ++ two_digits moment.day

-- a time of the day
abbrev pub clock_text : Moment → List ℕ
clock_text moment = two_digits moment.hour ++ codes ":" ++ two_digits moment.minute ++ codes ":" ++ two_digits moment.second

-- a time
abbrev pub time_text : ℕ → List ℕ
time_text seconds = date_text (moment_of seconds) ++ codes " " ++ clock_text (moment_of seconds)
