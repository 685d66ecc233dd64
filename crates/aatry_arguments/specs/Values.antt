-- The value of an option, taken out of words wherever the option is among the other words: in the next word, or after a `=` in its own.
use Rattle.std.specs.Prelude.{◌≡◌, ℕ, if◌then◌else◌, List, [], ◌∷◌, Option, None, Some, drop, length}
use Rattle.std.specs.Option.{option_map}
use Rattle.std.specs.Str.{bytes_eq}
use Rattle.aa_bytes.specs.Texts.{begins_with}
use Rattle.aatry_arguments.specs.Languages.{ends_options}

-- an option's word, and the beginning of a word that has its value too
pub record ValueOption : Type 0 where
  pub word : List ℕ
  pub opening : List ℕ

-- the value that an option has, if it has one, and the words without it
pub record WithValue : Type 0 where
  pub value : Option (List ℕ)
  pub words : List (List ℕ)

-- the value and the words with one more before them
abbrev pub with_word : List ℕ → WithValue → WithValue
with_word word read = record { value = read.value; words = word ∷ read.words }

-- the value in a word, if that begins with the opening
abbrev pub value_within : List ℕ → List ℕ → Option (List ℕ)
value_within opening word = if begins_with opening word then Some (drop (length opening) word) else None

-- The value of an option among some words before the first `--`, where so far it has this value or none, or where a value has to come next: the last
-- value counts. Nothing where a value is missing.
abbrev pub value_in : ValueOption → Option (Option (List ℕ)) → List (List ℕ) → Option WithValue
value_in option None [] = None
value_in option None (word ∷ words) = value_in option (Some (Some word)) words
value_in option (Some value) [] = Some (record { value = value; words = [] })
value_in option (Some value) (word ∷ words) =
    if ends_options word then Some (record { value = value; words = word ∷ words }) else
    if bytes_eq word option.word then value_in option None words else
    elim (value_within option.opening word) [
      | Some other ↦ value_in option (Some (Some other)) words
      | None ↦ option_map (with_word word) (value_in option (Some value) words)
    ]

-- the value of an option among words
abbrev pub value_of : ValueOption → List (List ℕ) → Option WithValue
value_of option words = value_in option (Some None) words

-- words don't have an option
abbrev pub IsWithout : ValueOption → List (List ℕ) → Type 0
IsWithout option words = value_of option words ≡ Some (record { value = None; words = words })
