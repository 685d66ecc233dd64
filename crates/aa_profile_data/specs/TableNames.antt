-- Tables of names, each at the index that is its number.
use Rattle.std.specs.Prelude.{ℕ, ◌+◌, List, [], ◌∷◌, Option, None, Some, if◌then◌else◌}
use Rattle.std.specs.Str.{bytes_eq}

-- the number of a name, where numbers begin with this one
abbrev pub number_from : ℕ → List (List ℕ) → List ℕ → Option ℕ
number_from first [] name = None
number_from first (own ∷ names) name = if bytes_eq own name then Some first else number_from (first + 1) names name

-- the number of a name
abbrev pub number_in : List (List ℕ) → List ℕ → Option ℕ
number_in names name = number_from 0 names name

-- the name in a table; empty where the number has none
abbrev pub name_or_none : Option (List ℕ) → List ℕ
name_or_none None = []
name_or_none (Some name) = name
