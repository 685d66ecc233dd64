-- Numbers in decimal digits.
use Rattle.std.specs.Prelude.{ℕ, Bool, ◌+◌, ◌-◌, ◌*◌, ◌&&◌, nat_le, nat_lt, if◌then◌else◌, List, [], ◌∷◌, Option, None, Some, option_and_then}
use Rattle.aa_bytes.specs.Texts.{is_empty}

-- the first second of the year 10000, before which all times are
abbrev pub end_of_times : ℕ
end_of_times = 253402300800

-- a decimal digit
abbrev pub is_digit : ℕ → Bool
is_digit b = nat_le 48 b && nat_le b 57

-- a number with one more digit at its end
abbrev pub with_digit : ℕ → ℕ → ℕ
with_digit number b = number * 10 + (b - 48)

-- a number with one more byte at its end, if that is a digit, and the number is before the end of times
abbrev pub with_more : ℕ → ℕ → Option ℕ
with_more number b = if is_digit b && nat_lt (with_digit number b) end_of_times then Some (with_digit number b) else None

-- the number of digits after those of a number
abbrev pub number_onto : ℕ → List ℕ → Option ℕ
number_onto number [] = Some number
number_onto number (b ∷ bs) = option_and_then (λ more. number_onto more bs) (with_more number b)

-- the number of digits, of which there is at least one
abbrev pub number_of : List ℕ → Option ℕ
number_of text = if is_empty text then None else number_onto 0 text
