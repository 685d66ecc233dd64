-- The found sets as they are stored: keys of a map, in the order in which they were inserted, each with its origin.
use Rattle.std.specs.Prelude.{ℕ, List, map, Vec}
use Rattle.aa_glob_paths.specs.Found.{FoundSet}
use Rattle.aa_glob_paths.specs.declared.origin.Origin.{Origin}

-- an entry of the map
abbrev pub found_of : {A : Type 0} → Vec ℕ A × Origin → FoundSet
found_of entry = record { set = entry.0.items; origin = entry.1 }

-- all entries
abbrev pub all_found : {A : Type 0} → List (Vec ℕ A × Origin) → List FoundSet
all_found entries = map found_of entries
