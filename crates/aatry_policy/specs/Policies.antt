-- The policy set that files make, one after the other, each loaded as it is to be: by the flags of its profiles, in complain mode, or disabled.
use Rattle.std.specs.Prelude.{ℕ, List, [], ◌∷◌, map, Option, None, Some, Result, Ok, Err}
use Rattle.aa_text_files.specs.Files.{File}
use Rattle.aa_profile.specs.FileReading.{file_profiles_in}
use Rattle.aa_profile_data.specs.declared.profile.Mode.TheVariants.{Complain as ComplainMode}
use Rattle.aa_profile_data.specs.declared.profile.Profile.{Profile}
use Rattle.aa_profile_parsing.specs.declared.profile_error.ProfileError.{ProfileError}
use Rattle.aa_set_commands.specs.Command.{Add}
use Rattle.aa_set_commands.specs.declared.refusal.Refusal.{Refusal}
use Rattle.aa_set_manager.specs.Manager.{Managed, disabled, in_mode, made}
use Rattle.aatry_folder.specs.Loadings.{TopFile}
use Rattle.aatry_folder.specs.declared.loading.Loading.{Loading}
use Rattle.aatry_folder.specs.declared.loading.Loading.TheVariants.{ByFlags, Disable, ForceComplain}

-- the manager after a change: what was made, or everything as it was before
abbrev pub made_or : Managed → Result Managed Refusal → Managed
made_or before (Ok managed) = managed
made_or before (Err refusal) = before

-- why a change was refused, if it was
abbrev pub refusal_of : Result Managed Refusal → Option Refusal
refusal_of (Ok managed) = None
refusal_of (Err refusal) = Some refusal

-- why a file is refused, if it is
abbrev pub refusal_in : List File → Managed → List ℕ → Option Refusal
refusal_in files managed name = refusal_of (made files managed (Add name))

-- the change of a profile that is in force, by how its file is loaded: `complain NAME`, `disable NAME`, or none
abbrev pub switch : Loading → Managed → List ℕ → Result Managed Refusal
switch ByFlags managed name = Ok managed
switch ForceComplain managed name = in_mode ComplainMode managed name
switch Disable managed name = disabled managed name

-- with that change of each of these profiles, one after the other
abbrev pub switched : Loading → Managed → List (List ℕ) → Managed
switched loading managed [] = managed
switched loading managed (name ∷ names) = switched loading (made_or managed (switch loading managed name)) names

-- the names of the profiles of a file, if it is read
abbrev pub profile_names : Result (List Profile) ProfileError → List (List ℕ)
profile_names (Ok profiles) = map (λ profile. profile.name) profiles
profile_names (Err error) = []

-- with the profiles of a file and the change of each, by their names, if they were added
abbrev pub switched_if : Loading → List (List ℕ) → Managed → Result Managed Refusal → Managed
switched_if loading names before (Ok managed) = switched loading managed names
switched_if loading names before (Err refusal) = before

-- with the profiles of a file, loaded as it is to be, or as it was where the file is refused
abbrev pub with_file : List File → Managed → TopFile → Managed
with_file files managed file =
    switched_if file.loading (profile_names (file_profiles_in managed.settings.language files file.name)) managed (made files managed (Add file.name))

-- with the profiles of each of these files, one after the other
abbrev pub loaded : List File → Managed → List TopFile → Managed
loaded files managed [] = managed
loaded files managed (file ∷ top) = loaded files (with_file files managed file) top

-- why each of these files is refused, if it is
abbrev pub outcomes : List File → Managed → List TopFile → List (Option Refusal)
outcomes files managed [] = []
outcomes files managed (file ∷ top) = refusal_in files managed file.name ∷ outcomes files (with_file files managed file) top
