-- An order of variables in which each comes after all that its words name.
use Rattle.std.specs.Prelude.{ℕ, Bool, true, ◌≡◌, nat_eq, List, take, slice_get, None, Some}
use Rattle.std.specs.List.{list_all, list_any}
use Rattle.aa_text_expansion.specs.Parts.{Part, Byte, Name, Unclosed, parts}
use Rattle.aa_text_variables.specs.Variables.{Variable}
use Rattle.aa_text_variables.specs.code.VariableIndexes.{index_of, words_at}

-- The variables that a text names, as far as they are defined, are among known indices.
abbrev pub is_part_known : List Variable → List ℕ → Part → Bool
is_part_known variables known (Byte b) = true
is_part_known variables known (Name name) = elim (index_of variables name) [
  | None ↦ true
  | Some index ↦ list_any (nat_eq index) known
]
is_part_known variables known Unclosed = true

abbrev pub is_text_known : List Variable → List ℕ → List ℕ → Bool
is_text_known variables known text = list_all (is_part_known variables known) (parts text)

abbrev pub are_texts_known : List Variable → List ℕ → List (List ℕ) → Bool
are_texts_known variables known texts = list_all (is_text_known variables known) texts

-- what the words of each variable name comes before it
abbrev pub IsOrder : List Variable → List ℕ → Type 0
IsOrder variables order = (at index : ℕ) → slice_get order at ≡ Some index → are_texts_known variables (take at order) (words_at variables index) ≡ true
