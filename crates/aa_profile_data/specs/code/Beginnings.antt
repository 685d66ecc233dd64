-- The exec word with which the text of an access begins.
use Rattle.std.specs.Prelude.{ℕ, List, [], ◌∷◌, Option, None, Some}
use Rattle.std.specs.Option.{option_map}
use denote.Ref.{Bor}
use Rattle.aa_profile_data.specs.ExecWords.{exec_word}
use Rattle.aa_profile_data.specs.declared.exec_word.ExecWord.{ExecWord}

-- the exec word of three bytes with which a text begins, and what follows it
abbrev pub word_of_three : List ℕ → Option (ExecWord × List ℕ)
word_of_three (a ∷ b ∷ c ∷ more) = option_map (λ word. (word, more)) (exec_word (a ∷ b ∷ c ∷ []))
word_of_three _ = None

-- the exec word of two bytes with which a text begins, and what follows it
abbrev pub word_of_two : List ℕ → Option (ExecWord × List ℕ)
word_of_two (a ∷ b ∷ more) = option_map (λ word. (word, more)) (exec_word (a ∷ b ∷ []))
word_of_two _ = None

-- the exec word of three bytes, or else of two
abbrev pub first_word : List ℕ → Option (ExecWord × List ℕ)
first_word text = elim (word_of_three text) [ Some read ↦ Some read | None ↦ word_of_two text ]

-- what the code reads
abbrev pub seen_read : ExecWord × Bor (List ℕ) → ExecWord × List ℕ
seen_read read = (read.0, read.1.now)
