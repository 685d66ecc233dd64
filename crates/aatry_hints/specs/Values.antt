-- The values of options: which are valid, and the first that isn't.
use Rattle.std.specs.Prelude.{ℕ, Bool, true, not, is_some, ◌&&◌, ◌||◌, if◌then◌else◌, List, [], ◌∷◌, Option, Some, None, codes}
use Rattle.std.specs.List.{list_any}
use Rattle.std.specs.Str.{bytes_eq}
use Rattle.aa_profile_parsing.specs.Languages.{language_named}
use Rattle.aatry_hints.specs.Wishes.{wish_of}
use Rattle.aatry_words.specs.Named.{time_named}
use Rattle.aatry_words.specs.Numbers.{number_of}
use Rattle.aatry_hints.specs.Commands.{is_taken}
use Rattle.aatry_hints.specs.Options.{is_word_of, valued}
use Rattle.aatry_hints.specs.Parts.{Given, Part, Plain, is_given_as}

-- a value is one that an option takes, as far as it is read here: a language, a wish for colours, a number, a time; the other options take any
abbrev pub is_value_of : List ℕ → List ℕ → Bool
is_value_of name value =
    if bytes_eq name (codes "--language") then is_some (language_named value) else
    if bytes_eq name (codes "--color") then is_some (wish_of value) else
    if bytes_eq name (codes "--limit") then is_some (number_of value) else
    if bytes_eq name (codes "--since") then is_some (time_named value) else true

-- the values that an option takes, in words
abbrev pub values_told : List ℕ → List ℕ
values_told name =
    if bytes_eq name (codes "--language") then codes "3 or 4" else
    if bytes_eq name (codes "--color") then codes "auto, always or never" else
    if bytes_eq name (codes "--limit") then codes "a number in digits, from 0 to 253402300799" else
    codes "a time: @SECONDS since 1970, or in UTC \"YYYY-MM-DD\", \"YYYY-MM-DD HH:MM\" or \"YYYY-MM-DD HH:MM:SS\""

-- the value of an option counts before these parts: where it is given again, the last does; but each language has to be one
abbrev pub counts_ahead_of : List Part → List ℕ → Bool
counts_ahead_of parts name = bytes_eq name (codes "--language") || not (list_any (is_given_as name) parts)

-- an option with a value that it doesn't take
pub record BadValue : Type 0 where
  pub name : List ℕ
  pub value : List ℕ

-- the value of an option before some parts counts, and isn't one that the option takes, and a command with these options of its own takes the option
unfoldable pub is_bad : List (List ℕ) → List Part → (name value : List ℕ) → Bool
is_bad own behind name value = is_taken own name && not (is_value_of name value) && counts_ahead_of behind name

-- the option of a part before others, with its value, if that counts and the option doesn't take it
abbrev pub bad_value_of : List (List ℕ) → Part → List Part → Option BadValue
bad_value_of own (Given name (Some value)) behind = if is_bad own behind name value then Some (record { name = name; value = value }) else None
bad_value_of own (Given name None) behind = None
bad_value_of own (Plain word) behind = None

-- the first such option among some parts
abbrev pub bad_value_in : List (List ℕ) → List Part → Option BadValue
bad_value_in own [] = None
bad_value_in own (part ∷ more) = elim (bad_value_of own part more) [ Some bad ↦ Some bad | None ↦ bad_value_in own more ]

-- an option that lacks the value that it takes, if this part is one
abbrev pub lacking : Option Part → Option (List ℕ)
lacking (Some (Given name None)) = if is_word_of valued name then Some name else None
lacking (Some (Given name (Some value))) = None
lacking (Some (Plain word)) = None
lacking None = None
