-- The changes of profiles that are in force, by how their file is loaded: each stays where it is.
use Rattle.std.proofs.Common.{◌≡◌, ℕ, Bool, true, false, not, ◌||◌, cond, List, [], ◌∷◌, ◌++◌, map, Option, None, Some, Result, Ok, Err, refl, sym, ap, ◌∙◌}
use Rattle.std.proofs.lemmas.Bool.{and_parts}
use Rattle.std.proofs.lemmas.List.{append_assoc, map-append}
use Rattle.std.proofs.lemmas.Slice.Eq.{bytes_eq-Decides}
use Rattle.std.specs.List.{list_any}
use Rattle.std.specs.Str.{bytes_eq}
use Rattle.aa_decide_ready.specs.Entries.{Loaded, is_in_force}
use Rattle.aa_decide_ready.specs.Named.{entry_named, have_distinct_names, profiles_of}
use Rattle.aa_decide_ready.specs.declared.entry.State.{State}
use Rattle.aa_profile_data.specs.Profile.{are_distinct, is_named as is_profile_named}
use Rattle.aa_profile_data.specs.declared.profile.Mode.TheVariants.{Complain as ComplainMode}
use Rattle.aa_profile_data.specs.declared.profile.Profile.{Profile}
use Rattle.aa_set_manager.specs.Changes.{disabled, in_force, loaded as taken_by, put, with_disabled, with_mode}
use Rattle.aa_set_commands.specs.Refusal.{plain}
use Rattle.aa_set_commands.specs.declared.refusal.Refusal.{Refusal}
use Rattle.aa_set_commands.specs.declared.refusal.RefusalKind.TheVariants.{Absent, Disabled}
use Rattle.aa_set_manager.specs.Manager.{Managed, after_change, after_commit}
use Rattle.aatry_folder.specs.declared.loading.Loading.{Loading}
use Rattle.aatry_folder.specs.declared.loading.Loading.TheVariants.{ByFlags, Disable, ForceComplain}
use Rattle.aatry_policy.specs.Loaded.{loaded_so}
use Rattle.aatry_policy.specs.Policies.{made_or, switch, switched, switched_if}

-- a profile as it is added
abbrev taken : Profile → Loaded
taken profile = taken_by false profile

-- however it is loaded, it is the same profile
so-profile : (loading : Loading) (profile : Profile) → (loaded_so loading profile).profile ≡ profile
so-profile ByFlags profile = refl
so-profile ForceComplain profile = refl
so-profile Disable profile = refl

pub own-profiles : (loading : Loading) (profiles : List Profile) → profiles_of (map (loaded_so loading) profiles) ≡ profiles
own-profiles loading [] = refl
own-profiles loading (profile ∷ profiles) = λ i. so-profile loading profile i ∷ own-profiles loading profiles i

taken-profiles : (profiles : List Profile) → profiles_of (map taken profiles) ≡ profiles
taken-profiles profiles = own-profiles ByFlags profiles

-- behind others
pub so-profiles : (loading : Loading) (front : List Loaded) (profiles : List Profile)
    → profiles_of (front ++ map (loaded_so loading) profiles) ≡ profiles_of (front ++ map taken profiles)
so-profiles loading front profiles =
    map-append (λ (entry : Loaded). entry.profile) front (map (loaded_so loading) profiles)
    ∙ ap (λ (l : List Profile). profiles_of front ++ l) (own-profiles loading profiles ∙ sym (taken-profiles profiles))
    ∙ sym (map-append (λ (entry : Loaded). entry.profile) front (map taken profiles))

-- no change but that of the set
change-settings : (managed : Managed) (size : ℕ) (came : Result (List Loaded) Refusal)
    → (made_or managed (after_change managed size came)).settings ≡ managed.settings
change-settings managed size (Ok set) = refl
change-settings managed size (Err refusal) = refl

switch-settings : (loading : Loading) (managed : Managed) (name : List ℕ) → (made_or managed (switch loading managed name)).settings ≡ managed.settings
switch-settings ByFlags managed name = refl
switch-settings ForceComplain managed name = change-settings managed 1 (with_mode ComplainMode managed.machine.now name)
switch-settings Disable managed name = change-settings managed 1 (with_disabled managed.machine.now name)

pub switched-settings : (loading : Loading) (managed : Managed) (names : List (List ℕ)) → (switched loading managed names).settings ≡ managed.settings
switched-settings loading managed [] = refl
switched-settings loading managed (name ∷ names) =
    switched-settings loading (made_or managed (switch loading managed name)) names ∙ switch-settings loading managed name

-- a name of one that stands behind others is among theirs
any-there : (name : List ℕ) (front : List Loaded) (profile : Profile) (rest : List Loaded) → profile.name ≡ name
    → list_any (is_profile_named name) (profiles_of (front ++ taken profile ∷ rest)) ≡ true
any-there name [] profile rest same =
    ap (λ b. b || list_any (is_profile_named name) (profiles_of rest)) ((bytes_eq-Decides profile.name name).1 same)
any-there name (other ∷ front) profile rest same = by (bytes_eq other.profile.name name) (any-there name front profile rest same)
  where
    by : (b : Bool) → list_any (is_profile_named name) (profiles_of (front ++ taken profile ∷ rest)) ≡ true
        → (b || list_any (is_profile_named name) (profiles_of (front ++ taken profile ∷ rest))) ≡ true
    by true there = refl
    by false there = there

-- where no two have one name, one that stands behind others is found by its name, and another state of it stands in its place
module _ (profile : Profile) (state : State) (rest : List Loaded) where
  abbrev other_state : Loaded
  other_state = record { profile = profile; state = state }

  found-there : (front : List Loaded) → have_distinct_names (front ++ taken profile ∷ rest) ≡ true
      → (entry_named profile.name (front ++ taken profile ∷ rest) ≡ Some (taken profile))
      × (put other_state (front ++ taken profile ∷ rest) ≡ front ++ other_state ∷ rest)
  found-there [] apart =
      let own = (bytes_eq-Decides profile.name profile.name).1 refl in (
        ap (λ b. cond b (Some (taken profile)) (entry_named profile.name rest)) own,
        ap (λ b. cond b (other_state ∷ rest) (taken profile ∷ put other_state rest)) own,
      )
  found-there (other ∷ front) apart = by (bytes_eq other.profile.name profile.name) refl (found-there front parts.1)
    where
      behind : List Loaded
      behind = front ++ taken profile ∷ rest

      parts : (not (list_any (is_profile_named other.profile.name) (profiles_of behind)) ≡ true) × (are_distinct (profiles_of behind) ≡ true)
      parts = and_parts (not (list_any (is_profile_named other.profile.name) (profiles_of behind))) (are_distinct (profiles_of behind)) apart

      by : (same : Bool) → bytes_eq other.profile.name profile.name ≡ same
          → (entry_named profile.name behind ≡ Some (taken profile)) × (put other_state behind ≡ front ++ other_state ∷ rest)
          → (cond same (Some other) (entry_named profile.name behind) ≡ Some (taken profile))
          × (cond same (other_state ∷ behind) (other ∷ put other_state behind) ≡ other ∷ (front ++ other_state ∷ rest))
      by true e found =
          let named = sym ((bytes_eq-Decides other.profile.name profile.name).0 e) in
          let there = any-there other.profile.name front profile rest named in
          let wrong : false ≡ true = ap not (sym there) ∙ parts.0 in
          absurd (cc)
      by false e (found, placed) = (found, ap (λ (l : List Loaded). other ∷ l) placed)

-- what a switch makes, by who has the name
abbrev mode-by : List Loaded → Option Loaded → Result (List Loaded) Refusal
mode-by set found = elim found [ None ↦ Err (plain Absent) | Some entry ↦ Ok (put (in_force (Some ComplainMode) entry.profile) set) ]

abbrev disabled-by : List Loaded → Option Loaded → Result (List Loaded) Refusal
disabled-by set found = elim found [
  | None ↦ Err (plain Absent)
  | Some entry ↦ cond (is_in_force entry.state) (Ok (put (disabled entry.profile) set)) (Err (plain Disabled))
]

-- the switch of one that stands so
switch-one : (loading : Loading) (managed : Managed) (front : List Loaded) (profile : Profile) (rest : List Loaded)
    → managed.machine.now ≡ front ++ taken profile ∷ rest → have_distinct_names (front ++ taken profile ∷ rest) ≡ true
    → (made_or managed (switch loading managed profile.name)).machine.now ≡ front ++ loaded_so loading profile ∷ rest
switch-one ByFlags managed front profile rest now apart = now
switch-one ForceComplain managed front profile rest now apart =
    let (found, placed) = found-there profile (taken_by true profile).state rest front apart in
    let set = front ++ taken profile ∷ rest in
    let changes : with_mode ComplainMode set profile.name ≡ Ok (put (taken_by true profile) set) =
    ap (λ (found : Option Loaded). mode-by set found) found in
    ap (λ (came : Result (List Loaded) Refusal). (made_or managed (after_change managed 1 came)).machine.now)
    (ap (λ (l : List Loaded). with_mode ComplainMode l profile.name) now ∙ changes)
    ∙ placed
switch-one Disable managed front profile rest now apart =
    let (found, placed) = found-there profile (loaded_so Disable profile).state rest front apart in
    let set = front ++ taken profile ∷ rest in
    let changes : with_disabled set profile.name ≡ Ok (put (loaded_so Disable profile) set) =
    ap (λ (found : Option Loaded). disabled-by set found) found in
    ap (λ (came : Result (List Loaded) Refusal). (made_or managed (after_change managed 1 came)).machine.now)
    (ap (λ (l : List Loaded). with_disabled l profile.name) now ∙ changes)
    ∙ placed

-- the switches of those that stand behind some others
pub switched-now : (loading : Loading) (profiles : List Profile) (managed : Managed) (front : List Loaded)
    → managed.machine.now ≡ front ++ map taken profiles → have_distinct_names managed.machine.now ≡ true
    → (switched loading managed (map (λ profile. profile.name) profiles)).machine.now ≡ front ++ map (loaded_so loading) profiles
switched-now loading [] managed front now apart = now
switched-now loading (profile ∷ profiles) managed front now apart =
    let next = made_or managed (switch loading managed profile.name) in
    let rest = map taken profiles in
    let own = loaded_so loading profile in
    let set_apart : have_distinct_names (front ++ taken profile ∷ rest) ≡ true = ap have_distinct_names (sym now) ∙ apart in
    let one : next.machine.now ≡ front ++ own ∷ rest = switch-one loading managed front profile rest now set_apart in
    let same : profiles_of (front ++ own ∷ rest) ≡ profiles_of (front ++ taken profile ∷ rest) =
    map-append (λ (entry : Loaded). entry.profile) front (own ∷ rest)
    ∙ ap (λ (p : Profile). profiles_of front ++ p ∷ profiles_of rest) (so-profile loading profile)
    ∙ sym (map-append (λ (entry : Loaded). entry.profile) front (taken profile ∷ rest)) in
    let next_apart : have_distinct_names next.machine.now ≡ true = ap have_distinct_names one ∙ ap are_distinct same ∙ set_apart in
    switched-now loading profiles next (front ++ own ∷ []) (one ∙ sym (append_assoc front (own ∷ []) rest)) next_apart
    ∙ append_assoc front (own ∷ []) (map (loaded_so loading) profiles)

-- a file is read as before behind one that is added or left out
pub if-settings : (loading : Loading) (names : List (List ℕ)) (managed : Managed) (size : ℕ) (came : Result (List Loaded) Refusal)
    → (switched_if loading names managed (after_change managed size came)).settings ≡ managed.settings
if-settings loading names managed size (Ok set) = switched-settings loading (after_commit managed set size) names
if-settings loading names managed size (Err refusal) = refl
