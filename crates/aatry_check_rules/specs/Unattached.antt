-- Profiles that no path is attached to (docs/aatry.md, "`aatry check --rules`").
use Rattle.std.specs.Prelude.{◌≡◌, ℕ, Bool, false, true, not, ◌&&◌, ◌==◌, List, [], ◌∷◌, count_by, length, Option, None, Some}
use Rattle.std.specs.List.{list_any}
use Rattle.aa_decide_ready.specs.Entries.{Loaded, is_in_force}
use Rattle.aa_decide_ready.specs.Slots.{entry_at, filled}
use Rattle.aa_explain_reach.specs.Patterns.{start_patterns}
use Rattle.aa_explain_reach.specs.Unattached.{AreUnattached}
use Rattle.aa_glob_paths.specs.TooMany.{AreMoreTextsThan}
use Rattle.aatry_policy.specs.Origins.{file_of, origin_in}
use Rattle.aatry_policy.specs.declared.origins.Origin.{Origin}
use Rattle.aatry_check_rules.specs.Finding.{is_of_file}

-- where a loaded profile was read, by its name
abbrev pub origin_of : List Origin → Loaded → Option Origin
origin_of origins entry = origin_in entry.profile.name origins

-- it is asked about: its file has one of these names, or there is no name
abbrev pub is_file_asked : List (List ℕ) → List ℕ → Bool
is_file_asked [] file = true
is_file_asked (name ∷ names) file = list_any (is_of_file file) (name ∷ names)

abbrev pub is_profile_asked : List Origin → List (List ℕ) → Loaded → Bool
is_profile_asked origins names entry = is_file_asked names (file_of (origin_of origins entry))

-- the same of what a slot holds
abbrev pub is_asked_in : List Origin → List (List ℕ) → Option Loaded → Bool
is_asked_in origins names None = false
is_asked_in origins names (Some entry) = is_profile_asked origins names entry

abbrev pub is_asked_at : List (Option Loaded) → List Origin → List (List ℕ) → ℕ → Bool
is_asked_at slots origins names slot = is_asked_in origins names (entry_at slots slot)

-- a profile in force has attachments
abbrev pub has_attachments : Loaded → Bool
has_attachments entry = is_in_force entry.state && not (length entry.profile.attachments == 0)

-- a slot holds one that is asked about
abbrev pub asks_attachments : List Origin → List (List ℕ) → Option Loaded → Bool
asks_attachments origins names None = false
asks_attachments origins names (Some entry) = has_attachments entry && is_profile_asked origins names entry

abbrev pub some_asks : List (Option Loaded) → List Origin → List (List ℕ) → Bool
some_asks slots origins names = list_any (asks_attachments origins names) slots

-- these are the slots of the profiles in force that have attachments but to which no path is attached; or there are
-- none, and the patterns read more texts than the limit differently
abbrev pub AreUnattachedWithin : List (Option Loaded) → ℕ → Option (List ℕ) → Type 0
AreUnattachedWithin slots limit None = AreMoreTextsThan (start_patterns (filled slots) None) limit
AreUnattachedWithin slots limit (Some places) = AreUnattached slots places

-- they are looked for where such a profile is asked about
abbrev pub AreUnattachedFound : Bool → List (Option Loaded) → ℕ → Option (List ℕ) → Type 0
AreUnattachedFound true slots limit found = AreUnattachedWithin slots limit found
AreUnattachedFound false slots limit found = found ≡ Some []

-- the paths by which attachments differ are too many
abbrev pub is_too_many : Option (List ℕ) → Bool
is_too_many None = true
is_too_many (Some places) = false

-- how many of them are asked about
abbrev pub unattached_count : List (Option Loaded) → List Origin → List (List ℕ) → Option (List ℕ) → ℕ
unattached_count slots origins names None = 0
unattached_count slots origins names (Some places) = count_by (is_asked_at slots origins names) places
