-- The profiles of the files of a folder that are taken, and the places of their parts.
use Rattle.std.specs.Prelude.{ℕ, List, [], ◌∷◌, ◌++◌, flat_map, Option, None, Some, Ok, Err}
use Rattle.aa_profile.specs.FilePlaces.{file_places_in}
use Rattle.aa_profile.specs.FileReading.{file_profiles_in}
use Rattle.aa_profile_data.specs.declared.profile.Profile.{Profile}
use Rattle.aa_profile_parsing.specs.declared.language.Language.{Language}
use Rattle.aa_profile_grammar.specs.declared.places.ProfilePlaces.{ProfilePlaces}
use Rattle.aa_set_commands.specs.declared.refusal.Refusal.{Refusal}
use Rattle.aa_text_files.specs.Files.{File}

-- the profiles of a file, and the places of their parts
pub record FileProfiles : Type 0 where
  pub name : List ℕ
  pub profiles : List Profile
  pub places : List ProfilePlaces

-- the profiles of a file of this name, read by a language; there is none where the file isn't read
abbrev pub file_at : Language → List File → List ℕ → List FileProfiles
file_at language files name = elim (file_profiles_in language files name) [
  | Err error ↦ []
  | Ok profiles ↦ elim (file_places_in language files name) [
    | None ↦ []
    | Some places ↦ record { name = name; profiles = profiles; places = places } ∷ []
  ]
]

-- the profiles of a file that is taken; one that is left out has none
abbrev pub file_if_taken : Language → List File → List ℕ → Option Refusal → List FileProfiles
file_if_taken language files name None = file_at language files name
file_if_taken language files name (Some refusal) = []

-- the profiles of files, by whether each was refused
abbrev pub read_profiles : Language → List File → List (List ℕ) → List (Option Refusal) → List FileProfiles
read_profiles language files (name ∷ names) (outcome ∷ outcomes) = file_if_taken language files name outcome ++ read_profiles language files names outcomes
read_profiles language files _ _ = []

-- all profiles of files that are read
abbrev pub profiles_in : List FileProfiles → List Profile
profiles_in read = flat_map (λ file. file.profiles) read
