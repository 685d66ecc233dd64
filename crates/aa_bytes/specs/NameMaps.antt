-- Numbers looked up by name: the number of each name, where it has one.
use Rattle.std.specs.Prelude.{◌≡◌, ℕ, if◌then◌else◌, List, Option, Some}
use Rattle.std.specs.Map.{lookup}
use Rattle.std.specs.Str.{bytes_eq}
use Rattle.aa_bytes.specs.declared.name_map.NameMap.{NameMap}

-- the number of a name, if it has one
abbrev pub number_of : NameMap → List ℕ → Option ℕ
number_of map name = lookup (λ other. bytes_eq name other.items) map.by_name.entries

-- a name has this number now, and each other name what it had
abbrev pub GivesNumber : NameMap → List ℕ → ℕ → NameMap → Type 0
GivesNumber old name number new = (other : List ℕ) → number_of new other ≡ (if bytes_eq name other then Some number else number_of old other)

-- each name has what it had
abbrev pub HaveSameNumbers : NameMap → NameMap → Type 0
HaveSameNumbers old new = (name : List ℕ) → number_of new name ≡ number_of old name
