-- Tables of an order of variables: what the variable at each index of the order has.
use Rattle.std.specs.Prelude.{ℕ, ◌≡◌, ◌<◌, nat_eq, List, length, map, flat_map, take, position, slice_get, slice_index_or, Option, None, Some}
use Rattle.aa_text_expansion.specs.Counting.{count_of}
use Rattle.aa_text_expansion.specs.Joining.{cut_off}
use Rattle.aa_text_expansion.specs.Lists.{list_at}
use Rattle.aa_text_variables.specs.Variables.{Variable}
use Rattle.aa_text_variables.specs.Expansions.{expansions}
use Rattle.aa_text_variables.specs.code.VariableIndexes.{index_of, words_at}

-- the row of a name's variable in each table of an order
abbrev pub row_of : List Variable → List ℕ → List ℕ → Option ℕ
row_of variables order name = elim (index_of variables name) [ None ↦ None | Some index ↦ position (nat_eq index) order ]

-- what a table has in a row, or else this
abbrev pub row_or : {A : Type 0} → A → List A → Option ℕ → A
row_or other table None = other
row_or other table (Some row) = slice_index_or table row other

-- what a table has for the variable of a name, or else this
abbrev pub looked_up : {A : Type 0} → A → List Variable → List ℕ → List A → List ℕ → A
looked_up other variables order table name = row_or other table (row_of variables order name)

-- the values of the variable at an index
abbrev pub values_at : List Variable → ℕ → List (List ℕ)
values_at variables index = flat_map (expansions variables) (words_at variables index)

-- how many values the variable at an index has, up to the bound
abbrev pub count_at : List Variable → ℕ → ℕ
count_at variables index = count_of (values_at variables index)

-- counts of the first variables of an order
abbrev pub AreFirstCounts : List Variable → List ℕ → List ℕ → Type 0
AreFirstCounts variables order counts = counts ≡ map (count_at variables) (take (length counts) order)

-- the values of the variable at an index, each cut off
abbrev pub cut_off_at : List Variable → ℕ → List (List ℕ)
cut_off_at variables index = cut_off (values_at variables index)

-- the number that a table has for a name
abbrev pub number_of : List Variable → List ℕ → List ℕ → List ℕ → Option ℕ
number_of variables order numbers name = elim (row_of variables order name) [ None ↦ None | Some row ↦ slice_get numbers row ]

-- Lists of the values of the first variables of an order, by their numbers.
abbrev pub AreListed : List Variable → List ℕ → List ℕ → List (List (List ℕ)) → Type 0
AreListed variables order numbers lists =
    (row index number : ℕ) → slice_get order row ≡ Some index → slice_get numbers row ≡ Some number
    → (number < length lists) × (cut_off (list_at lists number) ≡ cut_off_at variables index)
