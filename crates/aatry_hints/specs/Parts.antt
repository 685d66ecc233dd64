-- The parts of the words of a start after the program's own name: options with their values, and other words.
use Rattle.std.specs.Prelude.{ℕ, Bool, false, not, ◌&&◌, if◌then◌else◌, List, [], ◌∷◌, Option, Some, None, codes}
use Rattle.std.specs.Str.{bytes_eq}
use Rattle.aatry_hints.specs.Options.{is_option, is_read_ahead, is_word_of, name_in, paths, value_in, valued}

-- a part: an option, by its name and its value, if it has one, or another word
pub data Part : Type 0 where
  Given : List ℕ → Option (List ℕ) → Part
  Plain : List ℕ → Part

-- no word after this one is an option
abbrev pub ends_options : List ℕ → Bool
ends_options word = bytes_eq word (codes "--")

-- A word is read by itself, and not as the value of the option before it: where that takes a path, each word of an option's form is; and where it
-- takes another value, an option that is read before it.
abbrev pub stands_apart : List ℕ → List ℕ → Bool
stands_apart option word = if is_word_of paths option then is_option word else is_read_ahead option (name_in word)

-- a word is the value of the option before it
abbrev pub is_value_behind : List ℕ → List ℕ → Bool
is_value_behind option word = is_word_of valued option && not (stands_apart option word)

-- a word by itself
abbrev pub part_of : List ℕ → Part
part_of word = if is_option word then Given (name_in word) (value_in word) else Plain word

-- the parts of some words, before the first `--`
abbrev pub parts : List (List ℕ) → List Part
parts [] = []
parts (word ∷ []) = if ends_options word then [] else part_of word ∷ []
parts (word ∷ next ∷ words) =
    if ends_options word then []
    else if is_value_behind word next then Given word (Some next) ∷ parts words
    else part_of word ∷ parts (next ∷ words)

-- the word in place of a command: the first that is no option, and no value of one
abbrev pub command_in : List Part → Option (List ℕ)
command_in [] = None
command_in (Given name value ∷ more) = command_in more
command_in (Plain word ∷ more) = Some word

-- the last of some parts, after one or none
abbrev pub last_behind : Option Part → List Part → Option Part
last_behind so_far [] = so_far
last_behind so_far (part ∷ more) = last_behind (Some part) more

-- a part is the option of this name
abbrev pub is_given_as : List ℕ → Part → Bool
is_given_as name (Given other value) = bytes_eq other name
is_given_as name (Plain word) = false
