-- The change that a command makes of a policy set: a new policy set, or a refusal (docs/commands.md, "Changes").
use Rattle.std.specs.Prelude.{ℕ, Bool, true, false, not, ◌&&◌, if◌then◌else◌, List, [], ◌∷◌, ◌++◌, length, map}
use Rattle.std.specs.Prelude.{filter, fold, Option, None, Some, is_none, Result, Ok, Err}
use Rattle.std.specs.List.{list_any}
use Rattle.aa_text_files.specs.Files.{File}
use Rattle.aa_profile_data.specs.Profile.{is_named as is_profile_named}
use Rattle.aa_profile_data.specs.declared.profile.Mode.{Mode}
use Rattle.aa_profile_data.specs.declared.profile.Mode.TheVariants.{Complain as ComplainMode, Enforce as EnforceMode}
use Rattle.aa_profile_data.specs.declared.profile.Profile.{Profile}
use Rattle.aa_decide_ready.specs.Entries.{Loaded, is_in_force}
use Rattle.aa_decide_ready.specs.declared.entry.State.TheVariants.{Disabled as DisabledState, Modes}
use Rattle.aa_decide_ready.specs.Named.{entry_named, has_name, is_named}
use Rattle.aa_profile.specs.FileReading.{file_profiles_in}
use Rattle.aa_profile_parsing.specs.declared.profile_error.ProfileError.{ProfileError}
use Rattle.aa_set_manager.specs.declared.settings.Settings.{Settings}
use Rattle.aa_set_commands.specs.Command.{PolicyChange, Add, Replace, Remove, Enforce, Complain, Disable}
use Rattle.aa_set_commands.specs.Refusal.{plain, refusal_of_profile}
use Rattle.aa_set_commands.specs.declared.refusal.Refusal.{Refusal}
use Rattle.aa_set_commands.specs.declared.refusal.RefusalKind.TheVariants.{Absent, Disabled, Exists}

-- a mode: the one that is set for all, if there is one, and else that of the own flags
abbrev pub mode_of : Option Mode → Mode → Mode
mode_of None own = own
mode_of (Some mode) own = mode

-- the modes of a profile and of each of its children and hats, in their order
abbrev pub modes_of : Option Mode → Profile → List Mode
modes_of set profile = mode_of set profile.mode ∷ map (λ child. mode_of set child.mode) profile.children

-- a profile in force: all in the mode that is set, or each in that of its own flags
abbrev pub in_force : Option Mode → Profile → Loaded
in_force set profile = record { profile = profile; state = Modes (modes_of set profile) }

-- the mode that profiles are set to as they are loaded: complain with the option `-C`, else none
abbrev pub forced : Bool → Option Mode
forced force_complain = if force_complain then Some ComplainMode else None

-- how a profile is loaded
abbrev pub loaded : Bool → Profile → Loaded
loaded force_complain profile = in_force (forced force_complain) profile

-- some of these profiles have a name that is loaded
abbrev pub are_there : List Profile → List Loaded → Bool
are_there profiles entries = list_any (λ profile. has_name profile.name entries) profiles

-- some of these profiles have a name that isn't loaded
abbrev pub some_are_absent : List Profile → List Loaded → Bool
some_are_absent profiles entries = list_any (λ profile. not (has_name profile.name entries)) profiles

-- the entry of a name is disabled
abbrev pub is_disabled : List ℕ → List Loaded → Bool
is_disabled name entries = elim (entry_named name entries) [ None ↦ false | Some entry ↦ not (is_in_force entry.state) ]

-- the entry of the name of some of these profiles is disabled
abbrev pub some_are_disabled : List Profile → List Loaded → Bool
some_are_disabled profiles entries = list_any (λ profile. is_disabled profile.name entries) profiles

-- an entry in the place of the one of its name, or after all entries where there is none
abbrev pub put : Loaded → List Loaded → List Loaded
put entry [] = entry ∷ []
put entry (other ∷ entries) = if is_named entry.profile.name other then entry ∷ entries else other ∷ put entry entries

-- profiles in force, one after another, each in the place of the entry of its name, or after all entries where there is none
abbrev pub put_all : Option Mode → List Loaded → List Profile → List Loaded
put_all set entries profiles = fold (λ entries profile. put (in_force set profile) entries) entries profiles

-- the entries whose names are none of these profiles'
abbrev pub without : List Profile → List Loaded → List Loaded
without profiles entries = filter (λ entry. not (list_any (is_profile_named entry.profile.name) profiles)) entries

-- `add`: the profiles of a file after the entries, if none of their names is loaded
abbrev pub with_added : Bool → List Loaded → List Profile → Result (List Loaded) Refusal
with_added force_complain entries profiles =
    if are_there profiles entries then Err (plain Exists) else Ok (entries ++ map (loaded force_complain) profiles)

-- `replace`: the profiles of a file, one after another, each in the place of the entry of its name or after all, if none of these entries is
-- disabled
abbrev pub with_replaced : Bool → List Loaded → List Profile → Result (List Loaded) Refusal
with_replaced force_complain entries profiles =
    if some_are_disabled profiles entries then Err (plain Disabled) else Ok (put_all (forced force_complain) entries profiles)

-- `remove`: the entries without those of the names of a file's profiles, if all are loaded
abbrev pub with_removed : List Loaded → List Profile → Result (List Loaded) Refusal
with_removed entries profiles = if some_are_absent profiles entries then Err (plain Absent) else Ok (without profiles entries)

-- `enforce` and `complain`: the profile of a name in force, it and all its children and hats in one mode
abbrev pub with_mode : Mode → List Loaded → List ℕ → Result (List Loaded) Refusal
with_mode mode entries name = elim (entry_named name entries) [
  | None ↦ Err (plain Absent)
  | Some entry ↦ Ok (put (in_force (Some mode) entry.profile) entries)
]

-- a profile out of force
abbrev pub disabled : Profile → Loaded
disabled profile = record { profile = profile; state = DisabledState }

-- `disable`: the profile of a name out of force, if it is in force
abbrev pub with_disabled : List Loaded → List ℕ → Result (List Loaded) Refusal
with_disabled entries name = elim (entry_named name entries) [
  | None ↦ Err (plain Absent)
  | Some entry ↦ if is_in_force entry.state then Ok (put (disabled entry.profile) entries) else Err (plain Disabled)
]

-- a change by the profiles of a file: the refusals of its reading come first
abbrev pub by_file : (List Profile → Result (List Loaded) Refusal) → Result (List Profile) ProfileError → Result (List Loaded) Refusal
by_file change (Err error) = Err (refusal_of_profile error)
by_file change (Ok profiles) = change profiles

-- The policy set after a change, or its refusal.
abbrev pub changed : List File → Settings → List Loaded → PolicyChange → Result (List Loaded) Refusal
changed files settings entries (Add file) = by_file (with_added settings.force_complain entries) (file_profiles_in settings.language files file)
changed files settings entries (Replace file) = by_file (with_replaced settings.force_complain entries) (file_profiles_in settings.language files file)
changed files settings entries (Remove file) = by_file (with_removed entries) (file_profiles_in settings.language files file)
changed files settings entries (Enforce name) = with_mode EnforceMode entries name
changed files settings entries (Complain name) = with_mode ComplainMode entries name
changed files settings entries (Disable name) = with_disabled entries name

-- how many profiles a file has, if it is read
abbrev pub profile_count : Result (List Profile) ProfileError → ℕ
profile_count (Ok profiles) = length profiles
profile_count (Err error) = 0

-- how many parts a change has: one for each profile of its file, or one for a switch
abbrev pub parts_of : List File → Settings → PolicyChange → ℕ
parts_of files settings (Add file) = profile_count (file_profiles_in settings.language files file)
parts_of files settings (Replace file) = profile_count (file_profiles_in settings.language files file)
parts_of files settings (Remove file) = profile_count (file_profiles_in settings.language files file)
parts_of files settings (Enforce name) = 1
parts_of files settings (Complain name) = 1
parts_of files settings (Disable name) = 1

-- a name is loaded
abbrev pub is_loaded : List ℕ → List Loaded → Bool
is_loaded name entries = not (is_none (entry_named name entries))

-- Memory may run out at a change, but a switch that is refused doesn't take any.
abbrev pub change_takes_memory : List Loaded → PolicyChange → Bool
change_takes_memory entries (Add file) = true
change_takes_memory entries (Replace file) = true
change_takes_memory entries (Remove file) = true
change_takes_memory entries (Enforce name) = is_loaded name entries
change_takes_memory entries (Complain name) = is_loaded name entries
change_takes_memory entries (Disable name) = is_loaded name entries && not (is_disabled name entries)
