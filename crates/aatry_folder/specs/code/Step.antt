-- One name's step: what it adds is appended to the names that were found, or can't be listed.
use Rattle.std.specs.Prelude.{◌≡◌, ◌<◌, ℕ, IsTrue, List, [], ◌∷◌, ◌++◌, length, slice_index_or, string_bytes}
use Rattle.aatry_folder.specs.Members.{is_folder, names_in}
use Rattle.aatry_folder.specs.NamesBelow.{MayHave, most_names, path_of, told_name}
use Rattle.aatry_folder.specs.Told.{ToldFolders}
use Rattle.aatry_folder.specs.declared.below.FolderFault.{FolderFault}
use Rattle.aatry_folder.specs.declared.below.FolderFault.TheVariants.{Unreadable, TooMany, Memory}

-- the name at an index
abbrev pub name_at : List (List ℕ) → ℕ → List ℕ
name_at names at = slice_index_or names at []

-- The names that one name adds, by the file system's answer: of a folder those of its members that are taken, and of a file none.
abbrev pub ComeOf : ToldFolders → List ℕ → List ℕ → List (List ℕ) → Type 0
ComeOf told base name names = (members : List (List ℕ)) × MayHave told base name members × (names ≡ names_in name members)

-- The names are those that all these add, one's after the other's.
abbrev pub IsListing : ToldFolders → List ℕ → List (List ℕ) → List (List ℕ) → Type 0
IsListing told base [] names = names ≡ []
IsListing told base (name ∷ others) names =
    (own more : List (List ℕ)) × ComeOf told base name own × (names ≡ own ++ more) × IsListing told base others more

-- what a name adds follows the other names
abbrev pub ComeBehind : ToldFolders → List ℕ → List ℕ → List (List ℕ) → List (List ℕ) → Type 0
ComeBehind told base name names after = (more : List (List ℕ)) × ComeOf told base name more × (after ≡ names ++ more)

-- The fault of a folder that can't be read, since this holds, has its name, or memory ran out.
abbrev pub IsFaultSince : Type 0 → List ℕ → List ℕ → FolderFault → Type 0
IsFaultSince Holds base name (Unreadable text) = IsTrue (is_folder name) × Holds × (string_bytes text ≡ told_name base name)
IsFaultSince Holds base name TooMany = ⊥
IsFaultSince Holds base name Memory = Unit {0}

-- The fault of a folder that can't be read, by the file system.
abbrev pub IsFaultAt : ToldFolders → List ℕ → List ℕ → FolderFault → Type 0
IsFaultAt told base name fault = IsFaultSince (told.IsUnreadable (path_of base name)) base name fault

-- The fault of so many names: they are too many, or memory ran out.
abbrev pub IsFaultOfMore : ℕ → FolderFault → Type 0
IsFaultOfMore count (Unreadable text) = ⊥
IsFaultOfMore count TooMany = most_names < count
IsFaultOfMore count Memory = Unit {0}

-- The fault of a name that was to add names after these.
abbrev pub IsFaultBehind : ToldFolders → List ℕ → List (List ℕ) → List ℕ → FolderFault → Type 0
IsFaultBehind told base names name (Unreadable text) =
    IsTrue (is_folder name) × told.IsUnreadable (path_of base name) × (string_bytes text ≡ told_name base name)
IsFaultBehind told base names name TooMany =
    (after : List (List ℕ)) × ComeBehind told base name names after × (most_names < length after)
IsFaultBehind told base names name Memory = Unit {0}
