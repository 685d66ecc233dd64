-- Choices: the texts that result from a choice of a value for each name in a text, and how many there are.
use Rattle.std.specs.Prelude.{ℕ, ◌*◌, List, [], ◌∷◌, ◌++◌, map, flat_map}
use Rattle.aa_text_expansion.specs.Parts.{Part, Byte, Name, Unclosed, parts}

-- All choices of one value for each name in a text, the first name changing slowest. A name that isn't closed has no value.
abbrev pub choices : (List ℕ → List (List ℕ)) → List Part → List (List ℕ)
choices values [] = [] ∷ []
choices values (Byte b ∷ ps) = map (λ rest. b ∷ rest) (choices values ps)
choices values (Name name ∷ ps) = flat_map (λ value. map (λ rest. value ++ rest) (choices values ps)) (values name)
choices values (Unclosed ∷ ps) = []

-- how many choices there are, where each name has so many values: the product of the counts
abbrev pub choice_count : (List ℕ → ℕ) → List Part → ℕ
choice_count counts [] = 1
choice_count counts (Byte b ∷ ps) = choice_count counts ps
choice_count counts (Name name ∷ ps) = counts name * choice_count counts ps
choice_count counts (Unclosed ∷ ps) = 0

-- all choices of values for the names in each of some words, those of one word after those of the one before
abbrev pub choices_within : (List ℕ → List (List ℕ)) → List (List ℕ) → List (List ℕ)
choices_within values words = flat_map (λ word. choices values (parts word)) words
