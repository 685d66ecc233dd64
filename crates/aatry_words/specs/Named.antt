-- Times as words name them: `@` with the seconds since 1970, or a day of the calendar in UTC, with or without a time of the day, as `2026-11-28`,
-- `2026-11-28 10:20` and `2026-11-28 10:20:30`.
use Rattle.std.specs.Prelude.{ℕ, Bool, ◌-◌, ◌==◌, ◌&&◌, ◌||◌, nat_le, if◌then◌else◌, List, Option, None, Some, codes, drop, length, option_and_then, slice_index, take}
use Rattle.aa_bytes.specs.Bytes.{space}
use Rattle.aa_bytes.specs.Texts.{begins_with_byte}
use Rattle.aatry_words.specs.Moments.{is_moment, seconds_to}
use Rattle.aatry_words.specs.Numbers.{number_of}
use Rattle.aatry_words.specs.declared.moments.Moment.{Moment}

abbrev pub at_sign : ℕ
at_sign = 64

abbrev pub hyphen : ℕ
hyphen = 45

abbrev pub colon : ℕ
colon = 58

-- a byte is at an index of a word, unless the word ends before it
abbrev pub stands_at : (byte place : ℕ) → List ℕ → Bool
stands_at byte place word = nat_le (length word) place || slice_index word place == byte

-- a word has the form of a day, of one with hour and minute, or of one with the second too
abbrev pub has_form : List ℕ → Bool
has_form word =
    (length word == 10 || length word == 16 || length word == 19)
    && stands_at hyphen 4 word && stands_at hyphen 7 word && stands_at space 10 word && stands_at colon 13 word && stands_at colon 16 word

-- the number of some digits at an index of a word, which is 0 where the word ends before them
abbrev pub number_at : (place digits : ℕ) → List ℕ → Option ℕ
number_at place digits word = if nat_le (length word) place then Some 0 else number_of (take digits (drop place word))

-- the moment of six numbers, if each is given
abbrev pub moment_by : (year month day hour minute second : Option ℕ) → Option Moment
moment_by (Some year) (Some month) (Some day) (Some hour) (Some minute) (Some second) =
    Some (record { year = year; month = month; day = day; hour = hour; minute = minute; second = second })
moment_by _ _ _ _ _ _ = None

-- the moment of the numbers of a word
abbrev pub moment_in : List ℕ → Option Moment
moment_in word = moment_by (number_at 0 4 word) (number_at 5 2 word) (number_at 8 2 word) (number_at 11 2 word) (number_at 14 2 word) (number_at 17 2 word)

-- the seconds to a moment, where the calendar and the clock have it
abbrev pub seconds_of : Moment → Option ℕ
seconds_of moment = if is_moment moment then Some (seconds_to moment) else None

-- the time of a word that has the form of a moment
abbrev pub written_time : List ℕ → Option ℕ
written_time word = if has_form word then option_and_then seconds_of (moment_in word) else None

-- the time that a word names, if it names one
abbrev pub time_named : List ℕ → Option ℕ
time_named word = if begins_with_byte at_sign word then number_of (drop 1 word) else written_time word
