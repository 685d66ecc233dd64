-- Variables by their indices: how many others were defined before each.
use Rattle.std.specs.Prelude.{ℕ, suc, List, [], ◌∷◌, slice_get, Option, None, Some, option_map, if◌then◌else◌}
use Rattle.std.specs.Str.{bytes_eq}
use Rattle.aa_text_variables.specs.Variables.{Variable}
use Rattle.aa_text_variables.specs.Expansions.{words_of}

-- the index of a name's variable
abbrev pub index_of : List Variable → List ℕ → Option ℕ
index_of [] name = None
index_of (variable ∷ variables) name = if bytes_eq name variable.name then Some 0 else option_map suc (index_of variables name)

-- the words of the variable at an index
abbrev pub words_at : List Variable → ℕ → List (List ℕ)
words_at variables index = elim (slice_get variables index) [
  | None ↦ []
  | Some variable ↦ words_of variable
]
