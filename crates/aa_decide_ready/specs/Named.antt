-- Entries by the names of their profiles.
use Rattle.std.specs.Prelude.{ℕ, Bool, List, map, Option, find}
use Rattle.std.specs.List.{list_any}
use Rattle.std.specs.Str.{bytes_eq}
use Rattle.aa_profile_data.specs.Profile.{are_distinct}
use Rattle.aa_profile_data.specs.declared.profile.Profile.{Profile}
use Rattle.aa_decide_ready.specs.Entries.{Loaded}

-- an entry's profile has the name
abbrev pub is_named : List ℕ → Loaded → Bool
is_named name entry = bytes_eq entry.profile.name name

-- some entry's profile has the name
abbrev pub has_name : List ℕ → List Loaded → Bool
has_name name entries = list_any (is_named name) entries

-- the entry of a name
abbrev pub entry_named : List ℕ → List Loaded → Option Loaded
entry_named name entries = find (is_named name) entries

-- the profiles of entries
abbrev pub profiles_of : List Loaded → List Profile
profiles_of entries = map (λ entry. entry.profile) entries

-- no two entries have one name
abbrev pub have_distinct_names : List Loaded → Bool
have_distinct_names entries = are_distinct (profiles_of entries)
