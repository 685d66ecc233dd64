-- Slots by the names of the profiles in them.
use Rattle.std.specs.Prelude.{ℕ, Bool, false, List, map, Option, None, Some, position}
use Rattle.aa_decide_ready.specs.Entries.{Loaded}
use Rattle.aa_decide_ready.specs.Named.{is_named}
use Rattle.aa_profile_data.specs.declared.profile.Profile.{Profile}

-- a slot holds a profile of this name
abbrev pub holds : List ℕ → Option Loaded → Bool
holds name None = false
holds name (Some entry) = is_named name entry

-- the first slot that holds a profile of this name
abbrev pub slot_named : List ℕ → List (Option Loaded) → Option ℕ
slot_named name slots = position (holds name) slots

-- for each of these profiles, the first slot that holds one of its name
abbrev pub slots_named : List Profile → List (Option Loaded) → List (Option ℕ)
slots_named profiles slots = map (λ profile. slot_named profile.name slots) profiles
