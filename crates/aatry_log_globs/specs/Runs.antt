-- Hashes and numbers in paths, which differ in each run of a program.
use Rattle.std.specs.Prelude.{ℕ, ◌+◌, Bool, true, not, ◌==◌, ◌&&◌, ◌||◌, if◌then◌else◌, nat_le, List, [], ◌∷◌, codes, drop, length, take, Option, None, Some}
use Rattle.std.specs.List.{list_all, list_any, prefix_len}
use Rattle.aa_bytes.specs.Bytes.{dash, is_digit, is_letter, is_letter_or_digit}
use Rattle.aa_bytes.specs.Texts.{begins}

-- a hexadecimal digit, in either case
abbrev pub is_hexadecimal : ℕ → Bool
is_hexadecimal b = is_digit b || (nat_le 97 b && nat_le b 102) || (nat_le 65 b && nat_le b 70)

abbrev pub is_capital : ℕ → Bool
is_capital b = nat_le 65 b && nat_le b 90

-- how many letters and digits a text begins with: its first word
abbrev pub word_size : List ℕ → ℕ
word_size text = prefix_len is_letter_or_digit text

-- how many digits a text begins with: its first number
abbrev pub number_size : List ℕ → ℕ
number_size text = prefix_len is_digit text

-- how many digits a hash has at least
abbrev pub least_hash : ℕ
least_hash = 8

-- A word is a hash: it has enough hexadecimal digits and nothing else, and among them both a digit and a letter.
abbrev pub is_hash : List ℕ → Bool
is_hash word = nat_le least_hash (length word) && list_all is_hexadecimal word && list_any is_digit word && list_any is_letter word

-- how many bytes a UUID has: eight, four, four, four and twelve hexadecimal digits, with dashes between
abbrev pub uuid_size : ℕ
uuid_size = 36

abbrev pub is_dash_place : ℕ → Bool
is_dash_place place = place == 8 || place == 13 || place == 18 || place == 23

abbrev pub is_of_uuid : ℕ → ℕ → Bool
is_of_uuid place b = if is_dash_place place then b == dash else is_hexadecimal b

-- each byte of a text can be at its index of a UUID, from an index on
abbrev pub are_of_uuid : ℕ → List ℕ → Bool
are_of_uuid place [] = true
are_of_uuid place (b ∷ bs) = is_of_uuid place b && are_of_uuid (place + 1) bs

abbrev pub is_uuid : List ℕ → Bool
is_uuid text = length text == uuid_size && are_of_uuid 0 text

-- a text begins with a UUID, which no letter or digit follows
abbrev pub begins_with_uuid : List ℕ → Bool
begins_with_uuid text = is_uuid (take uuid_size text) && not (begins is_letter_or_digit (drop uuid_size text))

-- how many bytes the hash or the UUID has with which a text begins; 0, where it begins with neither
abbrev pub hash_size : List ℕ → ℕ
hash_size text = if begins_with_uuid text then uuid_size else if is_hash (take (word_size text) text) then word_size text else 0

-- how many bytes the hash or the UUID has with which a text after a byte begins; 0 after a letter or digit
abbrev pub hash_size_behind : ℕ → List ℕ → ℕ
hash_size_behind before text = if is_letter_or_digit before then 0 else hash_size text

-- a hash or a number: the pattern of those like it, and how many bytes it has
pub record Run : Type 0 where
  pub pattern : List ℕ
  pub size : ℕ

-- the pattern of hashes in the letters of this one
abbrev pub hash_pattern : List ℕ → List ℕ
hash_pattern hash = if list_any is_capital hash then codes "[0-9a-fA-F]*" else codes "[0-9a-f]*"

-- the hash or the number of so many bytes that a text begins with
abbrev pub hash_of : ℕ → List ℕ → Run
hash_of size text = record { pattern = hash_pattern (take size text); size = size }

abbrev pub number_of : ℕ → Run
number_of size = record { pattern = codes "[0-9]*"; size = size }

-- the number that a text begins with, if it does
abbrev pub number_run : List ℕ → Option Run
number_run text = if number_size text == 0 then None else Some (number_of (number_size text))

-- the hash or number with which a text after a byte begins, if it begins with one
abbrev pub run_behind : ℕ → List ℕ → Option Run
run_behind before text = if hash_size_behind before text == 0 then number_run text else Some (hash_of (hash_size_behind before text) text)
