-- How far the reading of an option's value has come.
use Rattle.std.specs.Prelude.{ℕ, List, ◌++◌, Option, option_map}
use Rattle.aatry_arguments.specs.Values.{ValueOption, WithValue, value_in}

-- the value and the words, with other words before those that are left
abbrev pub with_words : List (List ℕ) → WithValue → WithValue
with_words words read = record { value = read.value; words = words ++ read.words }

-- the value after words that were read, of which some are left
abbrev pub read_behind : ValueOption → (others : List (List ℕ)) → Option (Option (List ℕ)) → List (List ℕ) → Option WithValue
read_behind option others value words = option_map (with_words others) (value_in option value words)

-- the value that an option has, if none is missing, and the other words
abbrev pub value_with : List (List ℕ) → Option (Option (List ℕ)) → Option WithValue
value_with words value = option_map (λ value. record { value = value; words = words }) value
