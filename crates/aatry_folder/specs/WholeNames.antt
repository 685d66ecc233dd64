-- The whole paths of those names in a folder that includes look up by them.
use Rattle.std.specs.Prelude.{ℕ, Bool, ◌&&◌, ◌||◌, if◌then◌else◌, List, [], ◌∷◌, ◌++◌, Option, None, Some, codes, drop, flat_map, length}
use Rattle.std.specs.List.{list_any}
use Rattle.std.specs.Str.{bytes_eq}
use Rattle.aa_bytes.specs.Bytes.{slash}
use Rattle.aa_bytes.specs.Texts.{begins_with, begins_with_byte}
use Rattle.aa_text_files.specs.Files.{File, has_control_byte, is_folder_name}
use Rattle.aatry_folder.specs.Asked.{asked_in_files}

-- the beginning of the path of each file below a folder: the folder's, and a slash
abbrev pub front_at : List ℕ → List ℕ
front_at path = if is_folder_name path then path else path ++ codes "/"

-- a path lies below a folder, or is that folder's with `/` at its end: it begins with the folder's, and goes on with a slash
abbrev pub stands_below : List ℕ → List ℕ → Bool
stands_below folder path = begins_with folder path && begins_with_byte slash (drop (length folder) path)

-- a whole path is needed for what is looked up: by itself, or as one that lies below a folder
abbrev pub is_asked_by : List ℕ → List ℕ → Bool
is_asked_by path asked = bytes_eq asked path || stands_below asked path

abbrev pub is_asked : List (List ℕ) → List ℕ → Bool
is_asked asked path = list_any (is_asked_by path) asked

-- a whole path, if it is needed
abbrev pub asked_path : List (List ℕ) → List ℕ → List (List ℕ)
asked_path asked path = if is_asked asked path then path ∷ [] else []

-- the whole paths of names that are needed, each after the same front
abbrev pub asked_paths : List (List ℕ) → List ℕ → List (List ℕ) → List (List ℕ)
asked_paths asked front names = flat_map (λ name. asked_path asked (front ++ name)) names

-- The whole paths of names that includes of files need. There are none where no file has a name with that front, since it has a byte below the
-- space.
abbrev pub whole_names_behind : List ℕ → List (List ℕ) → List File → List (List ℕ)
whole_names_behind front names files = if has_control_byte front then [] else asked_paths (asked_in_files front files) front names

-- The whole paths of names that includes of files need, where the folder has such a path.
abbrev pub whole_names : Option (List ℕ) → List (List ℕ) → List File → List (List ℕ)
whole_names None names files = []
whole_names (Some front) names files = whole_names_behind front names files
