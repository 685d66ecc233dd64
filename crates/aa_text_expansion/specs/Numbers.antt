-- Numbers of names, and sets of numbers in the order in which they were added.
use Rattle.std.specs.Prelude.{ℕ, ◌≡◌, nat_eq, List, [], ◌∷◌, ◌++◌, Option, None, Some, if◌then◌else◌}
use Rattle.std.specs.List.{list_any}
use Rattle.aa_text_expansion.specs.Names.{Answers}
use Rattle.aa_text_expansion.specs.Parts.{Part, Byte, Name, Unclosed, parts}

-- the numbers of the names among parts, as far as they have some
abbrev pub numbers_of : (List ℕ → Option ℕ) → List Part → List ℕ
numbers_of number [] = []
numbers_of number (Byte b ∷ ps) = numbers_of number ps
numbers_of number (Name name ∷ ps) = elim (number name) [
  | None ↦ numbers_of number ps
  | Some index ↦ index ∷ numbers_of number ps
]
numbers_of number (Unclosed ∷ ps) = numbers_of number ps

-- the numbers of the names in a text
abbrev pub numbers_in : (List ℕ → Option ℕ) → List ℕ → List ℕ
numbers_in number text = numbers_of number (parts text)

-- the numbers of the names in words
abbrev pub numbers_within : (List ℕ → Option ℕ) → List (List ℕ) → List ℕ
numbers_within number [] = []
numbers_within number (word ∷ words) = numbers_in number word ++ numbers_within number words

-- numbers with one more, which is appended unless it is there
abbrev pub with_index : List ℕ → ℕ → List ℕ
with_index known index = if list_any (nat_eq index) known then known else known ++ index ∷ []

-- numbers with each of others in turn
abbrev pub with_indexes : List ℕ → List ℕ → List ℕ
with_indexes known [] = known
with_indexes known (index ∷ indexes) = with_indexes (with_index known index) indexes

-- Where calls return for each name its number, the numbers of some names were added after those that were there before.
abbrev pub Gathers : (List ℕ → Option ℕ → Type 0) → ((List ℕ → Option ℕ) → List ℕ) → List ℕ → List ℕ → Type 0
Gathers answers numbers before after = (number : List ℕ → Option ℕ) → Answers answers number → after ≡ with_indexes before (numbers number)
