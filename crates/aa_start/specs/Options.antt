-- The meaning of the words of a command line, by its options.
use Rattle.std.specs.Prelude.{ℕ, Bool, false, not, ◌==◌, ◌&&◌, if◌then◌else◌, List, [], ◌∷◌, Option, Some, None, is_some, drop, slice_get, codes}
use Rattle.std.specs.List.{after_first, before_first, list_any}
use Rattle.std.specs.Option.{option_map_or}
use Rattle.std.specs.Str.{bytes_eq, chars}

-- the byte of `-`
abbrev pub hyphen : ℕ
hyphen = 45

-- the byte of the `=` that may be between an option and its value
abbrev pub equals_sign : ℕ
equals_sign = 61

-- the letter of the option `-h`
abbrev pub help_letter : ℕ
help_letter = 104

-- the letter of the option `-V`
abbrev pub version_letter : ℕ
version_letter = 86

-- the letter of the option `-b`
abbrev pub base_letter : ℕ
base_letter = 98

-- the folder of policy, where none is given
abbrev pub default_base : List ℕ
default_base = codes "/etc/apparmor.d"

-- what is asked for: a thing of some kind, help, the version, or nothing that exists
pub data Asked (A : Type 0) : Type 0 where
  ForThis : A → Asked A
  ForHelp : Asked A
  ForVersion : Asked A
  Nothing : Asked A

-- what is asked for, where the thing is made into another
abbrev pub asked_as : {A B : Type 0} → (A → B) → Asked A → Asked B
asked_as made (ForThis thing) = ForThis (made thing)
asked_as made ForHelp = ForHelp
asked_as made ForVersion = ForVersion
asked_as made Nothing = Nothing

-- what is asked for, where the thing is made into what is asked for
abbrev pub asked_then : {A B : Type 0} → (A → Asked B) → Asked A → Asked B
asked_then made (ForThis thing) = made thing
asked_then made ForHelp = ForHelp
asked_then made ForVersion = ForVersion
asked_then made Nothing = Nothing

-- What an option does with what is asked for so far: a flag changes it, and so does an option with the value that it takes. Other options ask for
-- help or the version, and an unknown one asks for nothing that exists.
pub data Effect (A : Type 0) : Type 0 where
  Flag : (A → A) → Effect A
  Value : (List ℕ → A → A) → Effect A
  Help : Effect A
  Version : Effect A
  Unknown : Effect A

-- the options of a command line, by their letters and their names, and what words that are no options do
pub record Options (A : Type 0) : Type 0 where
  pub by_letter : ℕ → Effect A
  pub by_name : List ℕ → Effect A
  pub with_words : List (List ℕ) → A → A

-- the result of some words: what they ask for so far, the same but for a value that has to be the next word, or what is asked for whatever follows
pub data SoFar (A : Type 0) : Type 0 where
  Open : A → SoFar A
  ValueNext : (List ℕ → A) → SoFar A
  Settled : Asked A → SoFar A

-- an option: a hyphen, followed by a character
abbrev pub is_option : List ℕ → Bool
is_option [] = false
is_option (b ∷ rest) = b == hyphen && is_some (slice_get (chars rest) 0)

-- a word that is no option
abbrev pub is_name : List ℕ → Bool
is_name word = not (is_option word)

-- the value that follows a letter in its word, without one `=` at its beginning
abbrev pub attached : List ℕ → List ℕ
attached [] = []
attached (b ∷ rest) = if b == equals_sign then rest else b ∷ rest

-- what follows a letter in its word is its value, and where nothing does, the next word is
abbrev pub with_attached : {A : Type 0} → List ℕ → (List ℕ → A) → SoFar A
with_attached [] given = ValueNext given
with_attached (b ∷ rest) given = Open (given (attached (b ∷ rest)))

-- an option of one letter, by what it does: after a flag more letters follow, and after an option that takes a value that value
abbrev pub by_letter_effect : {A : Type 0} → Effect A → List ℕ → A → (A → SoFar A) → SoFar A
by_letter_effect (Flag change) rest given more = more (change given)
by_letter_effect (Value change) rest given more = with_attached rest (λ value. change value given)
by_letter_effect Help rest given more = Settled ForHelp
by_letter_effect Version rest given more = Settled ForVersion
by_letter_effect Unknown rest given more = Settled Nothing

-- the letters of an option, one after the other
abbrev pub by_letters : {A : Type 0} → Options A → List ℕ → A → SoFar A
by_letters options [] given = Open given
by_letters options (b ∷ rest) given =
    option_map_or (λ letter. by_letter_effect (options.by_letter letter) rest given (by_letters options rest)) (slice_get (chars (b ∷ rest)) 0) (Open given)

-- an option of two hyphens, by what it does and the value in its word: where one that takes a value has none there, the next word is
abbrev pub by_name_effect : {A : Type 0} → Effect A → Option (List ℕ) → A → SoFar A
by_name_effect (Flag change) None given = Open (change given)
by_name_effect (Flag change) (Some value) given = Settled Nothing
by_name_effect (Value change) None given = ValueNext (λ value. change value given)
by_name_effect (Value change) (Some value) given = Open (change value given)
by_name_effect Help None given = Settled ForHelp
by_name_effect Help (Some value) given = Settled Nothing
by_name_effect Version None given = Settled ForVersion
by_name_effect Version (Some value) given = Settled Nothing
by_name_effect Unknown value given = Settled Nothing

-- an option's name: what follows its hyphens, up to the first `=` if there is one
abbrev pub option_name : List ℕ → List ℕ
option_name text = before_first (λ b. b == equals_sign) text

-- the value in an option's word: what follows the first `=`, if there is one
abbrev pub option_value : List ℕ → Option (List ℕ)
option_value text = if list_any (λ b. b == equals_sign) text then Some (after_first (λ b. b == equals_sign) text) else None

-- an option, by what follows its first hyphen: after a second one its name, and else letters
abbrev pub by_option : {A : Type 0} → Options A → List ℕ → A → SoFar A
by_option options [] given = Open given
by_option options (b ∷ rest) given =
    if b == hyphen then by_name_effect (options.by_name (option_name rest)) (option_value rest) given else by_letters options (b ∷ rest) given

-- a word that isn't `--`, by whether it is an option
abbrev pub by_word : {A : Type 0} → Options A → List ℕ → A → SoFar A
by_word options word given = if is_option word then by_option options (drop 1 word) given else Open (options.with_words (word ∷ []) given)

-- What words ask for after words with this result. After `--` no word is an option. No option and no `--` is a value.
abbrev pub asked_behind : {A : Type 0} → Options A → SoFar A → List (List ℕ) → Asked A
asked_behind options (Settled asked) words = asked
asked_behind options (ValueNext given) [] = Nothing
asked_behind options (ValueNext given) (word ∷ words) = if is_option word then Nothing else asked_behind options (Open (given word)) words
asked_behind options (Open given) [] = ForThis given
asked_behind options (Open given) (word ∷ words) =
    if bytes_eq word (codes "--") then ForThis (options.with_words words given)
    else asked_behind options (by_word options word given) words
