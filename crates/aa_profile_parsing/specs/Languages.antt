-- The words of languages (docs/policy.md, "Languages").
use Rattle.std.specs.Prelude.{ℕ, if◌then◌else◌, List, Option, None, Some, codes}
use Rattle.std.specs.Str.{bytes_eq}
use Rattle.aa_profile_parsing.specs.declared.language.Language.{Language}
use Rattle.aa_profile_parsing.specs.declared.language.Language.TheVariants.{Four, Three}

-- the word of a language: its number
abbrev pub word_of : Language → List ℕ
word_of Three = codes "3"
word_of Four = codes "4"

-- the language of a word, if one has it
abbrev pub language_named : List ℕ → Option Language
language_named word = if bytes_eq word (word_of Three) then Some Three else if bytes_eq word (word_of Four) then Some Four else None
