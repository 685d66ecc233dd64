-- What holds of each profile of files that are read holds of each that a folder loads.
use Rattle.std.proofs.Common.{◌≡◌, ℕ, Bool, true, List, [], ◌∷◌, Result, Ok, Err, sym, subst}
use Rattle.std.specs.Prelude.{IfOk}
use Rattle.std.proofs.lemmas.Bool.{and_parts}
use Rattle.std.proofs.lemmas.List.Elements.{All-append, All-cons, All-contains, All-head, All-nil, All-tail}
use Rattle.std.specs.List.{All, Contains, list_all}
use Rattle.aa_decide_ready.specs.Entries.{Loaded}
use Rattle.aa_profile.specs.FileReading.{file_profiles_in}
use Rattle.aa_profile.specs.ProfileNames.{has_distinct_children, is_named_well}
use Rattle.aa_profile_data.specs.declared.profile.Profile.{Profile}
use Rattle.aa_profile_parsing.specs.declared.profile_error.ProfileError.{ProfileError}
use Rattle.aa_profile_parsing.specs.declared.language.Language.{Language}
use Rattle.aa_set_answers.specs.Laws.{HasFileNames}
use Rattle.aa_set_manager.specs.ChangeLaws.{ChangesKeepNamesApart}
use Rattle.aa_text_files.specs.Files.{File}
use Rattle.aatry_folder.specs.Loadings.{file_names}
use Rattle.aatry_policy.proofs.LoadLemmas.{HaveNames, all-named, folder-profiles, of-entries}
use Rattle.aatry_policy.proofs.PartLemmas.{are-set, part-is}
use Rattle.aatry_policy.proofs.ReadLemmas.{IsRead, all-read}
use Rattle.aatry_policy.specs.FolderParts.{parts_in}
use Rattle.aatry_policy.specs.Folders.{Folder, origins_in, outcomes_in, policy_in, read_in}
use Rattle.aatry_policy.specs.Laws.{IsFirstIn, IsPartIn}
use Rattle.aatry_policy.specs.Profiles.{FileProfiles, profiles_in}

-- what a test says of all, it says of each
pub each-passes : {X : Type 0} (test : X → Bool) (xs : List X) → list_all test xs ≡ true → All (λ x. test x ≡ true) xs
each-passes test [] passes = All-nil (λ x. test x ≡ true)
each-passes test (x ∷ xs) passes =
    let (own, others) = and_parts (test x) (list_all test xs) passes in
    All-cons (λ x. test x ≡ true) x xs own (each-passes test xs others)

-- what holds of all profiles holds of all that are loaded
all-loaded : ChangesKeepNamesApart → (Fit : Profile → Type 0) (folder : Folder) → All Fit (profiles_in (read_in folder))
    → (entry : Loaded) → Contains (policy_in folder) entry → Fit entry.profile
all-loaded keeps Fit folder fit entry there =
    All-contains (λ (entry : Loaded). Fit entry.profile) (policy_in folder) entry
    (of-entries Fit (policy_in folder) (subst (All Fit) (sym (folder-profiles keeps folder)) fit)) there

-- so it is of what holds of the profiles of each file
module _ (Fit : Profile → Type 0) (law : (language : Language) (files : List File) (name : List ℕ) → IfOk (file_profiles_in language files name) (All Fit)) where
  all-fit : (language : Language) (files : List File) (read : List FileProfiles) → All (IsRead language files) read → All Fit (profiles_in read)
  all-fit language files [] is = All-nil Fit
  all-fit language files (file ∷ read) is =
      All-append Fit file.profiles (profiles_in read)
      (subst (λ r. IfOk r (All Fit)) (All-head (IsRead language files) file read is).0 (law language files file.name))
      (all-fit language files read (All-tail (IsRead language files) file read is))

  pub loaded-fit : ChangesKeepNamesApart → (folder : Folder) (entry : Loaded) → Contains (policy_in folder) entry → Fit entry.profile
  loaded-fit keeps folder =
      all-loaded keeps Fit folder
      (all-fit folder.language folder.files (read_in folder) (all-read folder.language folder.files (file_names folder.top) (outcomes_in folder)))

-- and of what a test says of them
pub loaded-passes : ChangesKeepNamesApart → (test : Profile → Bool) → HaveNames test → (folder : Folder) (entry : Loaded)
    → Contains (policy_in folder) entry → test entry.profile ≡ true
loaded-passes keeps test law = loaded-fit (λ profile. test profile ≡ true) each keeps
  where
    each : (language : Language) (files : List File) (name : List ℕ) → IfOk (file_profiles_in language files name) (All (λ profile. test profile ≡ true))
    each language files name = by (file_profiles_in language files name) (law language files name)
      where
        by : (read : Result (List Profile) ProfileError) → IfOk read (λ profiles. list_all test profiles ≡ true)
            → IfOk read (All (λ profile. test profile ≡ true))
        by (Ok profiles) passes = each-passes test profiles passes
        by (Err error) passes = tt

pub loaded-named : ChangesKeepNamesApart → HaveNames is_named_well → HaveNames has_distinct_children → (folder : Folder) (entry : Loaded)
    → Contains (policy_in folder) entry → HasFileNames entry.profile
loaded-named keeps well apart folder =
    all-loaded keeps HasFileNames folder
    (all-named folder.language folder.files (read_in folder) well apart (all-read folder.language folder.files (file_names folder.top) (outcomes_in folder)))

-- the first part of a name is that of who is loaded
pub loaded-parts : (folder : Folder) (name : List ℕ) → IsFirstIn (policy_in folder) (parts_in folder) name
loaded-parts folder name part is =
    part-is (IsPartIn (policy_in folder)) (parts_in folder) name part
    (are-set (policy_in folder) (policy_in folder) (origins_in folder) (λ entry there. there)) is
