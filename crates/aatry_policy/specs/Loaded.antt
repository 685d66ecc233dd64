-- The profiles that a folder of policy loads, each as its file says: by its flags, in complain mode, or disabled.
use Rattle.std.specs.Prelude.{true, false, List, [], ◌∷◌, ◌++◌, map, Option}
use Rattle.aa_decide_ready.specs.Entries.{Loaded}
use Rattle.aa_profile_data.specs.declared.profile.Profile.{Profile}
use Rattle.aa_profile_parsing.specs.declared.language.Language.{Language}
use Rattle.aa_set_manager.specs.Changes.{disabled, loaded}
use Rattle.aa_set_commands.specs.declared.refusal.Refusal.{Refusal}
use Rattle.aa_text_files.specs.Files.{File}
use Rattle.aatry_folder.specs.Loadings.{TopFile}
use Rattle.aatry_folder.specs.declared.loading.Loading.{Loading}
use Rattle.aatry_folder.specs.declared.loading.Loading.TheVariants.{ByFlags, Disable, ForceComplain}
use Rattle.aatry_policy.specs.Folders.{Folder, outcomes_in}
use Rattle.aatry_policy.specs.Profiles.{file_if_taken, profiles_in}

-- how a profile is loaded: in force by its own flags, it and its children and hats in complain mode, or out of force
abbrev pub loaded_so : Loading → Profile → Loaded
loaded_so ByFlags profile = loaded false profile
loaded_so ForceComplain profile = loaded true profile
loaded_so Disable profile = disabled profile

-- the profiles of files, by whether each was refused: those that are taken, one file's after the other's
abbrev pub entries_of : Language → List File → List TopFile → List (Option Refusal) → List Loaded
entries_of language files (file ∷ top) (outcome ∷ outcomes) =
    map (loaded_so file.loading) (profiles_in (file_if_taken language files file.name outcome)) ++ entries_of language files top outcomes
entries_of language files _ _ = []

-- those of a folder
abbrev pub entries_in : Folder → List Loaded
entries_in folder = entries_of folder.language folder.files folder.top (outcomes_in folder)
