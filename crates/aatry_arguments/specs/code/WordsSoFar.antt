-- How far the reading of words has come.
use Rattle.std.specs.Prelude.{ℕ, List, ◌++◌, map, string_bytes}
use Rattle.aatry_arguments.specs.Languages.{ByLanguage}
use Rattle.aatry_arguments.specs.declared.languages.ByLanguage.{ByLanguage as CodeByLanguage}

-- the language of words, with other words before them
abbrev pub with_words : List (List ℕ) → ByLanguage → ByLanguage
with_words words read = record { language = read.language; words = words ++ read.words }

-- the words of the code by a language
abbrev pub seen_by : CodeByLanguage → ByLanguage
seen_by read = record { language = read.language; words = map string_bytes read.words.items }
