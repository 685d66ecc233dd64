-- The policy set of a folder: the profiles of the files that are read, in their order.
use Rattle.std.proofs.Common.{◌≡◌, ℕ, Bool, true, false, List, [], ◌∷◌, ◌++◌, length, map, Option, None, Some, Ok, Err, Result, refl, sym}
use Rattle.std.proofs.Common.{ap, subst, ◌∙◌, cond}
use Rattle.std.specs.Prelude.{IfOk}
use Rattle.std.proofs.lemmas.List.{append-nil, append_assoc, map-append}
use Rattle.std.proofs.lemmas.List.Elements.{All-append, All-cons, All-contains, All-head, All-nil, All-tail}
use Rattle.std.proofs.lemmas.Grind.{flat_map-append}
use Rattle.std.specs.List.{All, list_all}
use Rattle.aa_decide.specs.Exec.{Asker}
use Rattle.aa_decide_ready.specs.Named.{have_distinct_names, profiles_of}
use Rattle.aa_decide_ready.specs.Entries.{Loaded}
use Rattle.aa_profile.specs.FilePlaces.{file_places_in}
use Rattle.aa_profile.specs.FileReading.{file_profiles_in}
use Rattle.aa_profile.specs.ProfileNames.{has_distinct_children, is_named_well}
use Rattle.aa_profile_data.specs.Profile.{are_distinct}
use Rattle.aa_profile_data.specs.declared.profile.Profile.{Profile}
use Rattle.aa_profile_parsing.specs.declared.profile_error.ProfileError.{ProfileError}
use Rattle.aa_profile_parsing.specs.declared.language.Language.{Language}
use Rattle.aa_profile_grammar.specs.declared.places.ProfilePlaces.{ProfilePlaces}
use Rattle.aa_set_manager.specs.Manager.{Managed, after_change, after_commit, made, new_manager_in}
use Rattle.aa_set_answers.specs.Askers.{asker}
use Rattle.aa_set_answers.specs.Laws.{HasFileNames, IsListed, ListedNamesLeadBack}
use Rattle.aa_set_manager.specs.ChangeLaws.{ChangesKeepNamesApart}
use Rattle.aa_set_manager.specs.Changes.{are_there, by_file, changed, loaded as taken_by, profile_count, with_added}
use Rattle.aa_set_manager.specs.declared.settings.Settings.{Settings}
use Rattle.aa_set_commands.specs.Command.{Add}
use Rattle.aa_set_commands.specs.Refusal.{plain, refusal_of_profile}
use Rattle.aa_set_commands.specs.declared.refusal.Refusal.{Refusal}
use Rattle.aa_set_commands.specs.declared.refusal.RefusalKind.TheVariants.{Exists}
use Rattle.aa_set_answers.specs.ProfileNames.{full_name_at}
use Rattle.aa_text_files.specs.Files.{File}
use Rattle.aatry_policy.proofs.PartLemmas.{are-set, has-set, rules-of}
use Rattle.aatry_policy.proofs.ReadLemmas.{IsRead, all-read, placed, read-named}
use Rattle.aatry_folder.specs.Loadings.{TopFile, file_names}
use Rattle.aatry_policy.proofs.SwitchLemmas.{own-profiles, so-profiles, switched-now, switched-settings}
use Rattle.aatry_policy.specs.Laws.{HasOwnRules}
use Rattle.aatry_policy.specs.Loaded.{entries_in, entries_of, loaded_so}
use Rattle.aatry_policy.specs.Folders.{Folder, origins_in, outcomes_in, policy_in, read_in}
use Rattle.aatry_policy.specs.FolderParts.{parts_in}
use Rattle.aatry_policy.specs.Policies.{loaded, outcomes, profile_names, refusal_of, switched, switched_if}
use Rattle.aatry_policy.specs.Parts.{set_parts}
use Rattle.aatry_policy.specs.Profiles.{FileProfiles, file_at, file_if_taken, profiles_in, read_profiles}

-- a profile as it is added, in the mode of its own flags
abbrev pub taken : Profile → Loaded
taken profile = taken_by false profile

pub file-is : (language : Language) (files : List File) (name : List ℕ) (profiles : List Profile) (places : List ProfilePlaces)
    → file_profiles_in language files name ≡ Ok profiles → file_places_in language files name ≡ Some places
    → file_at language files name ≡ record { name = name; profiles = profiles; places = places } ∷ []
file-is language files name profiles places read there =
    ap (λ (own : Result (List Profile) ProfileError). elim own [
      | Err error ↦ []
      | Ok profiles ↦ elim (file_places_in language files name) [ None ↦ [] | Some places ↦ record { name = name; profiles = profiles; places = places } ∷ [] ]
    ]) read
    ∙ ap (λ (own : Option (List ProfilePlaces)). elim own [
      | None ↦ []
      | Some places ↦ record { name = name; profiles = profiles; places = places } ∷ []
    ]) there

-- the files that are read of some at the top of a folder
abbrev read_of : List File → List TopFile → Managed → List FileProfiles
read_of files top managed = read_profiles managed.settings.language files (file_names top) (outcomes files managed top)

-- what files load: the profiles of those that are read, each as its file says, behind what there was, and no two of one name
abbrev Loads : List File → List TopFile → Managed → Type 0
Loads files top managed =
    managed.settings.force_complain ≡ false → have_distinct_names managed.machine.now ≡ true
    → ((loaded files managed top).machine.now ≡ managed.machine.now ++ entries_of managed.settings.language files top (outcomes files managed top))
    × (have_distinct_names (loaded files managed top).machine.now ≡ true)

-- the set after a file that was read so and came out so
abbrev after_file : Managed → TopFile → Result (List Profile) ProfileError → Result Managed Refusal → Managed
after_file managed file read came = switched_if file.loading (profile_names read) managed came

-- the same, where the first was read so and came out so
abbrev LoadsFrom : List File → Managed → TopFile → List TopFile → Result (List Profile) ProfileError → Result Managed Refusal → Type 0
LoadsFrom files managed file top read came =
    ((loaded files (after_file managed file read came) top).machine.now
    ≡ managed.machine.now
    ++ (map (loaded_so file.loading) (profiles_in (file_if_taken managed.settings.language files file.name (refusal_of came)))
    ++ entries_of managed.settings.language files top (outcomes files (after_file managed file read came) top)))
    × (have_distinct_names (loaded files (after_file managed file read came) top).machine.now ≡ true)

-- how a file comes out, by its profiles
abbrev came_by : Managed → Result (List Profile) ProfileError → Result Managed Refusal
came_by managed read = after_change managed (profile_count read) (by_file (with_added managed.settings.force_complain managed.machine.now) read)

-- the set with some profiles more, or the refusal where one is there
abbrev set_if : Managed → List Profile → Bool → Result (List Loaded) Refusal
set_if managed profiles there =
    cond there (Err (plain Exists)) (Ok (managed.machine.now ++ map (taken_by managed.settings.force_complain) profiles))

abbrev added_if : Managed → List Profile → Bool → Result Managed Refusal
added_if managed profiles there = after_change managed (length profiles) (set_if managed profiles there)

module _ (keeps : ChangesKeepNamesApart) (files : List File) where
  step : (managed : Managed) (file : TopFile) (top : List TopFile) → ((next : Managed) → Loads files top next)
      → managed.settings.force_complain ≡ false → have_distinct_names managed.machine.now ≡ true
      → LoadsFrom files managed file top (file_profiles_in managed.settings.language files file.name) (made files managed (Add file.name))
  step managed file top rest plainly apart = by (file_profiles_in managed.settings.language files file.name) refl
    where
      by_profiles : (profiles : List Profile) → file_profiles_in managed.settings.language files file.name ≡ Ok profiles
          → (there : Bool) → are_there profiles managed.machine.now ≡ there → LoadsFrom files managed file top (Ok profiles) (made files managed (Add file.name))
      by_profiles profiles read true h =
          let came : made files managed (Add file.name) ≡ Err (plain Exists) = ap (came_by managed) read ∙ ap (added_if managed profiles) h in
          subst (LoadsFrom files managed file top (Ok profiles)) (sym came) (rest managed plainly apart)
      by_profiles profiles read false h =
          let (places, there) = placed managed.settings.language files file.name profiles read in
          let now = managed.machine.now in
          let next = after_commit managed (now ++ map (taken_by managed.settings.force_complain) profiles) (length profiles) in
          let after = switched file.loading next (map (λ (profile : Profile). profile.name) profiles) in
          let came : made files managed (Add file.name) ≡ Ok next = ap (came_by managed) read ∙ ap (added_if managed profiles) h in
          let changes : changed files managed.settings now (Add file.name) ≡ Ok (now ++ map (taken_by managed.settings.force_complain) profiles) =
          ap (by_file (with_added managed.settings.force_complain now)) read ∙ ap (set_if managed profiles) h in
          let next_apart : have_distinct_names (now ++ map (taken_by managed.settings.force_complain) profiles) ≡ true =
          subst (λ set. IfOk set (λ set. have_distinct_names set ≡ true)) changes (keeps files managed.settings now (Add file.name) apart) in
          let next_now : next.machine.now ≡ now ++ map taken profiles = ap (λ force. now ++ map (taken_by force) profiles) plainly in
          let after_now : after.machine.now ≡ now ++ map (loaded_so file.loading) profiles = switched-now file.loading profiles next now next_now next_apart in
          let settings : after.settings ≡ managed.settings = switched-settings file.loading next (map (λ (profile : Profile). profile.name) profiles) in
          let after_plainly : after.settings.force_complain ≡ false = ap (λ (s : Settings). s.force_complain) settings ∙ plainly in
          let after_apart : have_distinct_names after.machine.now ≡ true =
          ap are_distinct
          (ap profiles_of after_now ∙ so-profiles file.loading now profiles ∙ ap profiles_of (sym next_now))
          ∙ next_apart in
          let (all, distinct) = rest after after_plainly after_apart in
          let others = λ (language : Language). entries_of language files top (outcomes files after top) in
          let own = map (loaded_so file.loading) profiles in
          let is : profiles ++ [] ≡ profiles = append-nil profiles in
          let equal : (loaded files after top).machine.now ≡ now ++ (map (loaded_so file.loading) (profiles_in (file_at managed.settings.language files file.name)) ++ others managed.settings.language) =
          all
          ∙ ap (λ (set : List Loaded). set ++ others after.settings.language) after_now
          ∙ ap (λ (s : Settings). (now ++ own) ++ others s.language) settings
          ∙ append_assoc now own (others managed.settings.language)
          ∙ ap (λ (l : List Profile). now ++ (map (loaded_so file.loading) l ++ others managed.settings.language)) (sym is)
          ∙ ap (λ (read : List FileProfiles). now ++ (map (loaded_so file.loading) (profiles_in read) ++ others managed.settings.language))
          (sym (file-is managed.settings.language files file.name profiles places read there)) in
          subst (LoadsFrom files managed file top (Ok profiles)) (sym came) (equal, distinct)

      by : (read : Result (List Profile) ProfileError) → file_profiles_in managed.settings.language files file.name ≡ read
          → LoadsFrom files managed file top read (made files managed (Add file.name))
      by (Err error) e =
          let came : made files managed (Add file.name) ≡ Err (refusal_of_profile error) = ap (came_by managed) e in
          subst (LoadsFrom files managed file top (Err error)) (sym came) (rest managed plainly apart)
      by (Ok profiles) e = by_profiles profiles e (are_there profiles managed.machine.now) refl

  pub loads : (top : List TopFile) (managed : Managed) → Loads files top managed
  loads [] managed plainly apart = (sym (append-nil managed.machine.now), apart)
  loads (file ∷ top) managed plainly apart = step managed file top (loads top) plainly apart

-- what a folder loads
pub folder-entries : ChangesKeepNamesApart → (folder : Folder) → policy_in folder ≡ entries_in folder
folder-entries keeps folder = (loads keeps folder.files folder.top (new_manager_in folder.language false) refl refl).0

-- no two of these have one name
pub folder-apart : ChangesKeepNamesApart → (folder : Folder) → have_distinct_names (policy_in folder) ≡ true
folder-apart keeps folder = (loads keeps folder.files folder.top (new_manager_in folder.language false) refl refl).1

-- the profiles of what files load are those that are read of them
loaded-profiles : (language : Language) (files : List File) (top : List TopFile) (outcomes : List (Option Refusal))
    → profiles_of (entries_of language files top outcomes) ≡ profiles_in (read_profiles language files (file_names top) outcomes)
loaded-profiles language files [] outcomes = refl
loaded-profiles language files (file ∷ top) [] = refl
loaded-profiles language files (file ∷ top) (outcome ∷ outcomes) =
    let own = file_if_taken language files file.name outcome in
    map-append (λ (entry : Loaded). entry.profile) (map (loaded_so file.loading) (profiles_in own)) (entries_of language files top outcomes)
    ∙ ap (λ (l : List Profile). l ++ profiles_of (entries_of language files top outcomes)) (own-profiles file.loading (profiles_in own))
    ∙ ap (λ (l : List Profile). profiles_in own ++ l) (loaded-profiles language files top outcomes)
    ∙ sym (flat_map-append (λ (file : FileProfiles). file.profiles) own (read_profiles language files (file_names top) outcomes))

pub folder-profiles : ChangesKeepNamesApart → (folder : Folder) → profiles_of (policy_in folder) ≡ profiles_in (read_in folder)
folder-profiles keeps folder =
    ap profiles_of (folder-entries keeps folder) ∙ loaded-profiles folder.language folder.files folder.top (outcomes_in folder)

-- what holds of all profiles of some entries holds of the entries
pub of-entries : (Fit : Profile → Type 0) (entries : List Loaded) → All Fit (profiles_of entries) → All (λ entry. Fit entry.profile) entries
of-entries Fit [] all = All-nil (λ entry. Fit entry.profile)
of-entries Fit (entry ∷ entries) all =
    All-cons (λ entry. Fit entry.profile) entry entries (All-head Fit entry.profile (profiles_of entries) all)
    (of-entries Fit entries (All-tail Fit entry.profile (profiles_of entries) all))

-- what the laws say of the files that are read
abbrev pub HaveNames : (Profile → Bool) → Type 0
HaveNames test = (language : Language) (files : List File) (name : List ℕ) → IfOk (file_profiles_in language files name) (λ profiles. list_all test profiles ≡ true)

pub all-named : (language : Language) (files : List File) (read : List FileProfiles) → HaveNames is_named_well → HaveNames has_distinct_children
    → All (IsRead language files) read → All HasFileNames (profiles_in read)
all-named language files [] well apart is = All-nil HasFileNames
all-named language files (file ∷ read) well apart is =
    All-append HasFileNames file.profiles (profiles_in read)
    (read-named language files file (well language files file.name) (apart language files file.name) (All-head (IsRead language files) file read is))
    (all-named language files read well apart (All-tail (IsRead language files) file read is))

-- the full name of who is loaded leads back to it
pub leads-back : ChangesKeepNamesApart → ListedNamesLeadBack → HaveNames is_named_well → HaveNames has_distinct_children
    → (folder : Folder) (who : Asker) → IsListed (policy_in folder) who
    → asker (policy_in folder) (full_name_at who.entry.profile who.child) ≡ Some (Some who)
leads-back keeps lead well apart folder who listed =
    let entries = policy_in folder in
    let names = folder-apart keeps folder in
    let named : All (λ entry. HasFileNames entry.profile) entries =
    of-entries HasFileNames entries
    (subst (All HasFileNames) (sym (folder-profiles keeps folder))
    (all-named folder.language folder.files (read_in folder) well apart
    (all-read folder.language folder.files (file_names folder.top) (outcomes_in folder)))) in
    (lead entries who names (All-contains (λ entry. HasFileNames entry.profile) entries who.entry named listed.0) listed).0

-- the part of the full name of who is loaded has its rules
pub which-rules : ChangesKeepNamesApart → ListedNamesLeadBack → HaveNames is_named_well → HaveNames has_distinct_children
    → (folder : Folder) (who : Asker) → IsListed (policy_in folder) who → HasOwnRules (parts_in folder) who
which-rules keeps lead well apart folder =
    let entries = policy_in folder in
    rules-of (asker entries) entries (set_parts entries (origins_in folder)) (leads-back keeps lead well apart folder) (has-set entries (origins_in folder))
    (are-set entries entries (origins_in folder) (λ entry there. there))
