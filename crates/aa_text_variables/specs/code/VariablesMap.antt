-- The variables that are stored, and the index of each name.
use Rattle.std.specs.Prelude.{ℕ, ◌≡◌, ◌++◌, ◌∷◌, [], true, None, List, length, map, Vec}
use Rattle.std.specs.BTreeMap.{is_at}
use Rattle.std.specs.Cmp.Lexicographic.{slice_cmp}
use Rattle.std.specs.Map.{lookup}
use Rattle.std.specs.Ordering.{nat_cmp}
use Rattle.std.specs.Prelude.{Option}
use Rattle.aa_text_variables.specs.Variables.{Variable, are_variables}
use Rattle.aa_text_variables.specs.code.VariableIndexes.{index_of}
use Rattle.aa_text_variables.specs.declared.variables.Values.{Values}

-- the variable of an entry
abbrev pub as_variable : {A : Type 0} → Vec ℕ A × Values → Variable
as_variable entry = record { name = entry.0.items; defined = entry.1.defined; added = entry.1.added }

-- entries without their capacities
abbrev pub as_variables : {A : Type 0} → List (Vec ℕ A × Values) → List Variable
as_variables entries = map as_variable entries

-- the index that a map has for a name
abbrev pub place_of : {A : Type 0} → List ℕ → List (Vec ℕ A × ℕ) → Option ℕ
place_of name places = lookup (is_at (λ key. slice_cmp nat_cmp name key.items)) places

-- a map has the index of each name's variable
abbrev pub ArePlaced : {A : Type 0} → List Variable → List (Vec ℕ A × ℕ) → Type 0
ArePlaced variables places = (name : List ℕ) → place_of name places ≡ index_of variables name

-- the index of one more variable, after others, was added to a map
abbrev pub IsPlaced : {A : Type 0} → List ℕ → ℕ → List (Vec ℕ A × ℕ) → List (Vec ℕ A × ℕ) → Type 0
IsPlaced name place before after =
    (variables : List Variable) (more : Variable) → ArePlaced variables before → more.name ≡ name → index_of variables name ≡ None → place ≡ length variables
    → ArePlaced (variables ++ more ∷ []) after

-- what is known of entries and of the map with them
pub record AreKept {A : Type 0} (entries : List (Vec ℕ A × Values)) (places : List (Vec ℕ A × ℕ)) : Type 0 where
  pub variables : are_variables (as_variables entries) ≡ true
  pub placed : ArePlaced (as_variables entries) places
