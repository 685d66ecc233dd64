-- Counts of choices, up to a bound.
use Rattle.std.specs.Prelude.{ℕ, ◌≡◌, List, length, min}
use Rattle.std.specs.List.{sum_by}
use Rattle.aa_text_expansion.specs.Choices.{choice_count, choices, choices_within}
use Rattle.aa_text_expansion.specs.Names.{EachNameIn, EachNameWithin}
use Rattle.aa_text_expansion.specs.Parts.{parts}

-- counts stop at this number, which no file may reach
abbrev pub most_counted : ℕ
most_counted = 16385

-- how many choices a text has, up to the bound
abbrev pub counted : (List ℕ → ℕ) → List ℕ → ℕ
counted counts text = min (choice_count counts (parts text)) most_counted

-- how many choices words have together, up to the bound
abbrev pub counted_words : (List ℕ → ℕ) → List (List ℕ) → ℕ
counted_words counts words = min (sum_by (counted counts) words) most_counted

-- how many texts there are, up to the bound
abbrev pub count_of : List (List ℕ) → ℕ
count_of texts = min (length texts) most_counted

-- a name's count is that of its values, up to the bound
abbrev pub IsCounted : (List ℕ → ℕ) → (List ℕ → List (List ℕ)) → List ℕ → Type 0
IsCounted counts values name = counts name ≡ count_of (values name)

-- Where the counts of a text's names are those of their values, a count is that of the text's choices.
abbrev pub CountsChoices : (List ℕ → ℕ) → List ℕ → ℕ → Type 0
CountsChoices counts text count =
    (values : List ℕ → List (List ℕ)) → EachNameIn (IsCounted counts values) text → count ≡ count_of (choices values (parts text))

-- Where the counts of the names in words are those of their values, a count is that of the words' choices.
abbrev pub CountsChoicesWithin : (List ℕ → ℕ) → List (List ℕ) → ℕ → Type 0
CountsChoicesWithin counts words count =
    (values : List ℕ → List (List ℕ)) → EachNameWithin (IsCounted counts values) words → count ≡ count_of (choices_within values words)
