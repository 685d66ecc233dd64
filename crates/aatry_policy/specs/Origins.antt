-- Where loaded profiles were read: the file of each, and the places of its parts.
use Rattle.std.specs.Prelude.{ℕ, List, [], ◌∷◌, Option, None, Some, find, flat_map, slice_get}
use Rattle.std.specs.Str.{bytes_eq}
use Rattle.aa_profile_data.specs.declared.profile.Profile.{Profile}
use Rattle.aa_profile_grammar.specs.declared.places.ProfilePlaces.{ProfilePlaces}
use Rattle.aa_profile_grammar.specs.declared.places.SectionPlaces.{SectionPlaces}
use Rattle.aa_set_commands.specs.declared.refusal.Refusal.{Refusal}
use Rattle.aa_text_files.specs.declared.text_error.Place.{Place}
use Rattle.aatry_policy.specs.Profiles.{FileProfiles}
use Rattle.aatry_policy.specs.declared.origins.Origin.{Origin}

-- the origin of a profile of a file
abbrev pub own_origin : List ℕ → Profile → ProfilePlaces → Origin
own_origin file profile places = record { profile = profile.name; file = file; places = Some places }

-- the origins of the profiles of a file
abbrev pub file_origins : List ℕ → List Profile → List ProfilePlaces → List Origin
file_origins file profiles [] = []
file_origins file [] (own ∷ places) = []
file_origins file (profile ∷ profiles) (own ∷ places) = own_origin file profile own ∷ file_origins file profiles places

-- the origins of the profiles of files that were read
abbrev pub origins_of : List FileProfiles → List Origin
origins_of read = flat_map (λ file. file_origins file.name file.profiles file.places) read

-- profiles that were taken have these origins; those that were refused have none
abbrev pub origins_if : List Origin → Option Refusal → List Origin
origins_if own None = own
origins_if own (Some refusal) = []

-- the first of some origins that is that of a profile of this name, if one is
abbrev pub origin_in : List ℕ → List Origin → Option Origin
origin_in name origins = find (λ origin. bytes_eq origin.profile name) origins

-- the file of an origin; where there is no origin, that isn't known
abbrev pub file_of : Option Origin → List ℕ
file_of None = []
file_of (Some origin) = origin.file

-- the places of a profile's parts, by its origin, if they are known
abbrev pub places_of : Option Origin → Option ProfilePlaces
places_of None = None
places_of (Some origin) = origin.places

-- the places of the rules of a child or a hat; a missing one has none
abbrev pub section_rules : Option SectionPlaces → List (Option Place)
section_rules None = []
section_rules (Some own) = own.rules

-- the places of the rules of a profile, or of its child or hat at an index
abbrev pub places_in : ProfilePlaces → Option ℕ → List (Option Place)
places_in places None = places.own.rules
places_in places (Some place) = section_rules (slice_get places.children place)

-- the places of the rules by its origin; none where they aren't known
abbrev pub places_by : Option ProfilePlaces → Option ℕ → List (Option Place)
places_by None child = []
places_by (Some places) child = places_in places child

abbrev pub rule_places : Option Origin → Option ℕ → List (Option Place)
rule_places origin child = places_by (places_of origin) child

-- the flags of a child or a hat that decide nothing; a missing one has none
abbrev pub section_flags : Option SectionPlaces → List (List ℕ)
section_flags None = []
section_flags (Some own) = own.flags

-- the flags that decide nothing of a profile, or of its child or hat at an index
abbrev pub flags_in : ProfilePlaces → Option ℕ → List (List ℕ)
flags_in places None = places.own.flags
flags_in places (Some place) = section_flags (slice_get places.children place)

-- the flags that decide nothing by its origin; none where they aren't known
abbrev pub flags_by : Option ProfilePlaces → Option ℕ → List (List ℕ)
flags_by None child = []
flags_by (Some places) child = flags_in places child

abbrev pub idle_flags : Option Origin → Option ℕ → List (List ℕ)
idle_flags origin child = flags_by (places_of origin) child
