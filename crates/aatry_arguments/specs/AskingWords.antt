-- What the words after `who` and `why` ask for.
use Rattle.std.specs.Prelude.{ℕ, if◌then◌else◌, List}
use Rattle.aa_bytes.specs.Texts.{is_empty}
use Rattle.aa_start.specs.Options.{Asked, ForThis, Nothing, asked_then}
use Rattle.aatry_arguments.specs.CheckWords.{CheckAsked, asked_check}

-- a question to a folder of policy, and its words; which words make a question is decided elsewhere
pub record AskingAsked : Type 0 where
  pub base : List ℕ
  pub words : List (List ℕ)

-- the question, by its two parts
abbrev pub asking_with : List ℕ → List (List ℕ) → AskingAsked
asking_with base words = record { base = base; words = words }

-- the question of words that were read as a check, where it has a name: the names are the words of the question
abbrev pub asking_of : CheckAsked → Asked AskingAsked
asking_of check = if is_empty check.names then Nothing else ForThis (asking_with check.base check.names)

-- the words after `who` and `why` are read like those after `check`
abbrev pub asked_words : List (List ℕ) → Asked AskingAsked
asked_words words = asked_then asking_of (asked_check words)
