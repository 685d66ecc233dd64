-- By which language a command reads policy.
use Rattle.std.specs.Prelude.{ℕ, Bool, if◌then◌else◌, List, [], ◌∷◌, Option, None, Some, codes, drop}
use Rattle.std.specs.Option.{option_map}
use Rattle.std.specs.Str.{bytes_eq}
use Rattle.aa_bytes.specs.Texts.{begins_with}
use Rattle.aa_profile_parsing.specs.Languages.{language_named}
use Rattle.aa_profile_parsing.specs.declared.language.Language.{Language}

-- words without those that name a language, and the language that the last of these names
pub record ByLanguage : Type 0 where
  pub language : Language
  pub words : List (List ℕ)

-- the words with one more before them
abbrev pub with_word : List ℕ → ByLanguage → ByLanguage
with_word word read = record { language = read.language; words = word ∷ read.words }

-- no word after this one is an option
abbrev pub ends_options : List ℕ → Bool
ends_options word = bytes_eq word (codes "--")

-- the word after this one names a language
abbrev pub is_language_word : List ℕ → Bool
is_language_word word = bytes_eq word (codes "--language")

-- the word of a language in this one, if it begins with `--language=`
abbrev pub language_in : List ℕ → Option (List ℕ)
language_in word = if begins_with (codes "--language=") word then Some (drop 11 word) else None

-- The language that some words name before the first `--`, where so far they name this one, or where one has to be named next. Nothing where a word
-- that has to name one names none.
abbrev pub by_language : Option Language → List (List ℕ) → Option ByLanguage
by_language None [] = None
by_language None (word ∷ words) = elim (language_named word) [ None ↦ None | Some language ↦ by_language (Some language) words ]
by_language (Some language) [] = Some (record { language = language; words = [] })
by_language (Some language) (word ∷ words) =
    if ends_options word then Some (record { language = language; words = word ∷ words }) else
    if is_language_word word then by_language None words else
    elim (language_in word) [
      | Some named ↦ elim (language_named named) [ None ↦ None | Some other ↦ by_language (Some other) words ]
      | None ↦ option_map (with_word word) (by_language (Some language) words)
    ]
