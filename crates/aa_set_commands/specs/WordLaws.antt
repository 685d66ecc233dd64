-- Definitions for the law on words.
use Rattle.std.specs.Prelude.{ℕ, List, [], ◌∷◌, ◌++◌}
use Rattle.aa_bytes.specs.Bytes.{quote, space}

-- a word in quotes
abbrev pub in_quotes : List ℕ → List ℕ
in_quotes word = quote ∷ word ++ quote ∷ []

-- words, each in quotes, joined by blanks
abbrev pub quoted_line : List (List ℕ) → List ℕ
quoted_line [] = []
quoted_line (word ∷ []) = in_quotes word
quoted_line (word ∷ next ∷ words) = in_quotes word ++ space ∷ quoted_line (next ∷ words)
