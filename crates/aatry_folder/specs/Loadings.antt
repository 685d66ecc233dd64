-- How the profiles of the files at the top of a folder of policy are loaded (apparmor_parser(8), "disable" and "force-complain").
use Rattle.std.specs.Prelude.{◌≡◌, ℕ, Bool, true, false, not, List, ◌++◌, codes, filter, map, string_bytes}
use Rattle.std.specs.List.{All}
use Rattle.aatry_folder.specs.NamesBelow.{path_of}
use Rattle.aatry_folder.specs.Told.{ToldFolders}
use Rattle.aatry_folder.specs.declared.loading.Loading.{Loading}
use Rattle.aatry_folder.specs.declared.loading.Loading.TheVariants.{ByFlags, Disable, ForceComplain}
use Rattle.aatry_folder.specs.declared.loading.TopFile.{TopFile as CodeFile}

-- a file at the top of a folder of policy, by its name, and how its profiles are loaded
pub record TopFile : Type 0 where
  pub name : List ℕ
  pub loading : Loading

-- a file of the code
abbrev pub seen_top : CodeFile → TopFile
seen_top file = record { name = string_bytes file.name; loading = file.loading }

-- the names of files
abbrev pub file_names : List TopFile → List (List ℕ)
file_names files = map (λ file. file.name) files

-- the path by which the profiles of a file are disabled, and the one by which they are loaded in complain mode
abbrev pub disable_path : List ℕ → List ℕ → List ℕ
disable_path base name = path_of base (codes "disable/" ++ name)

abbrev pub complain_path : List ℕ → List ℕ → List ℕ
complain_path base name = path_of base (codes "force-complain/" ++ name)

-- The profiles of a file are disabled where something of its name exists in `disable/`, by the file system; where nothing does, and something exists
-- in `force-complain/`, they are loaded in complain mode; and else by their flags.
abbrev pub IsLoadedSo : ToldFolders → List ℕ → List ℕ → Loading → Type 0
IsLoadedSo folders base name Disable = folders.IsThere (disable_path base name) true
IsLoadedSo folders base name ForceComplain = folders.IsThere (disable_path base name) false × folders.IsThere (complain_path base name) true
IsLoadedSo folders base name ByFlags = folders.IsThere (disable_path base name) false × folders.IsThere (complain_path base name) false

-- a file's profiles are loaded so
abbrev pub IsAsked : ToldFolders → List ℕ → TopFile → Type 0
IsAsked folders base file = IsLoadedSo folders base file.name file.loading

-- the profiles of a file are disabled
abbrev pub disables : Loading → Bool
disables Disable = true
disables loading = false

abbrev pub is_disabled : TopFile → Bool
is_disabled file = disables file.loading

-- those of some files whose profiles are in force, and those whose profiles aren't
abbrev pub in_force : List TopFile → List TopFile
in_force files = filter (λ file. not (is_disabled file)) files

abbrev pub disabled : List TopFile → List TopFile
disabled files = filter is_disabled files

-- The order in which files are loaded: the disabled ones come last. So a profile in force is the first of its name.
abbrev pub in_loading_order : List TopFile → List TopFile
in_loading_order files = in_force files ++ disabled files

-- Files are those of some names, each loaded as the file system says, in the order in which they are loaded.
pub record AreTop (folders : ToldFolders) (base : List ℕ) (names : List (List ℕ)) (top : List TopFile) : Type 0 where
  pub asked : List TopFile
  pub named : file_names asked ≡ names
  pub each : All (IsAsked folders base) asked
  pub ordered : top ≡ in_loading_order asked
