-- The options of all commands, by their names, and the parts of an option's word.
use Rattle.std.specs.Prelude.{ℕ, Bool, false, not, ◌+◌, ◌&&◌, ◌||◌, ◌==◌, if◌then◌else◌, List, [], ◌∷◌, Option, Some, None, codes, drop, take}
use Rattle.std.specs.List.{list_any, prefix_len}
use Rattle.std.specs.Str.{bytes_eq}
use Rattle.aa_bytes.specs.Texts.{begins_with, has_byte, is_empty}

-- the options that a command may have, by their long names, and the other ones by their letters
abbrev pub options : List (List ℕ)
options =
    codes "--json" ∷ codes "--verbose" ∷ codes "--language" ∷ codes "--color" ∷ codes "--names" ∷ codes "--dot" ∷ codes "--limit" ∷ codes "--strict" ∷ codes "--denied"
    ∷ codes "--profile" ∷ codes "--since" ∷ codes "--rules" ∷ codes "--included" ∷ codes "--globs" ∷ codes "--log" ∷ codes "--questions" ∷ codes "--stat" ∷ codes "--all"
    ∷ codes "--quiet-audit" ∷ codes "--accept" ∷ codes "--help" ∷ codes "--version" ∷ []

abbrev pub letters : List (List ℕ)
letters = codes "-b" ∷ codes "-h" ∷ codes "-V" ∷ []

-- the options that take a value, and those of them whose value is a path
abbrev pub valued : List (List ℕ)
valued =
    codes "-b" ∷ codes "--language" ∷ codes "--color" ∷ codes "--limit" ∷ codes "--profile" ∷ codes "--since" ∷ codes "--log" ∷ codes "--questions" ∷ []

abbrev pub paths : List (List ℕ)
paths = codes "-b" ∷ codes "--log" ∷ codes "--questions" ∷ []

-- the options that are read out of the words before all others, in this order
abbrev pub read_first : List (List ℕ)
read_first = codes "--color" ∷ codes "--language" ∷ codes "--verbose" ∷ codes "--json" ∷ codes "--profile" ∷ codes "--all" ∷ []

-- the byte of `=`
abbrev pub equals_sign : ℕ
equals_sign = 61

-- a word is among some
abbrev pub is_word_of : List (List ℕ) → List ℕ → Bool
is_word_of names word = list_any (λ name. bytes_eq word name) names

-- the option exists
abbrev pub is_known : List ℕ → Bool
is_known name = is_word_of letters name || is_word_of options name

-- a word begins like one of some
abbrev pub begins_as_one : List (List ℕ) → List ℕ → Bool
begins_as_one names word = list_any (λ name. begins_with name word) names

-- a word has the form of an option: a hyphen, followed by more
abbrev pub is_option : List ℕ → Bool
is_option word = begins_with (codes "-") word && not (bytes_eq word (codes "-"))

-- how many bytes of a word are before its first `=`; all, where it has none
abbrev pub size_ahead : List ℕ → ℕ
size_ahead word = prefix_len (λ b. not (b == equals_sign)) word

-- the name of an option in its word: its letter, or what is before `=`
abbrev pub name_in : List ℕ → List ℕ
name_in word = if begins_as_one letters word then take 2 word else take (size_ahead word) word

-- the value after a letter, if there is one
abbrev pub value_behind_letter : List ℕ → Option (List ℕ)
value_behind_letter rest = if is_empty rest then None else Some rest

-- the value after `=`, if there is one
abbrev pub value_behind_sign : List ℕ → Option (List ℕ)
value_behind_sign word = if has_byte equals_sign word then Some (drop (size_ahead word + 1) word) else None

-- the value of an option in its own word, if it has one there
abbrev pub value_in : List ℕ → Option (List ℕ)
value_in word = if begins_as_one letters word then value_behind_letter (drop 2 word) else value_behind_sign word

-- the second of two options is read before the first, by the order of those that are read first
abbrev pub is_read_ahead_by : List (List ℕ) → List ℕ → List ℕ → Bool
is_read_ahead_by [] name other = false
is_read_ahead_by (first ∷ more) name other = if bytes_eq first name then false else bytes_eq first other || is_read_ahead_by more name other

abbrev pub is_read_ahead : List ℕ → List ℕ → Bool
is_read_ahead name other = is_read_ahead_by read_first name other
