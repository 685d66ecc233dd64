-- The files that are read, and why some can't be.
use Rattle.std.specs.Prelude.{◌≡◌, ◌<◌, ◌≤◌, ◌⊎◌, ℕ, List, ◌∷◌, ◌++◌, length, map, IfSome, IsFalse, IsTrue, Vec, String, string_bytes, false}
use Rattle.aa_text_files.specs.Files.{File, is_bad_file, is_folder_name}
use Rattle.aa_text_files.specs.Limit.{most_bytes}
use Rattle.aa_start.specs.Known.{Known}
use Rattle.aa_start.specs.Names.{AreGoodNames, is_refused_behind}
use Rattle.aa_start.specs.Reading.{path_of}
use Rattle.aa_start.specs.declared.gathering.GatherFault.{GatherFault}
use Rattle.aa_start.specs.declared.gathering.GatherFault.TheVariants.{Untaken, Memory}

-- the names of files
abbrev pub names_of : List File → List (List ℕ)
names_of files = map (λ file. file.0) files

-- the texts of the given names
abbrev pub texts_of : {A B : Type 0} → Vec (String A) B → List (List ℕ)
texts_of names = map string_bytes names.items

-- a file that may be taken: with no more bytes than one reading may enter, a good name, and no bytes where that declares a folder
abbrev pub IsTakable : File → Type 0
IsTakable file = (length file.1 ≤ most_bytes) × (is_bad_file file.0 file.1 ≡ false)

-- The file has the bytes that lie at the path of its name, where they are known. A folder isn't read.
abbrev pub IsReadBelow : Known → List ℕ → File → Type 0
IsReadBelow known base file = IsFalse (is_folder_name file.0) → IfSome (known.bytes_at (path_of base file.0)) (λ bytes. file.1 ≡ bytes)

-- The file that a name stands for can't be opened or read. A folder isn't read.
abbrev pub IsUnreadBelow : Known → List ℕ → List ℕ → Type 0
IsUnreadBelow known base name = IsFalse (is_folder_name name) × known.IsUnreadable (path_of base name)

-- The file that a name stands for is too long.
abbrev pub IsTooLongBelow : Known → List ℕ → List ℕ → Type 0
IsTooLongBelow known base name = IsFalse (is_folder_name name) × IfSome (known.bytes_at (path_of base name)) (λ bytes. most_bytes < length bytes)

-- The file that a name stands for can't be read, or is too long.
abbrev pub IsUnreadableBelow : Known → List ℕ → List ℕ → Type 0
IsUnreadableBelow known base name = IsUnreadBelow known base name ⊎ IsTooLongBelow known base name

-- The fault of a name after these: it is the name itself where that is refused, whatever its file is, or that its file can't be read. A refused name
-- is found without allocating, so memory never runs out at one.
abbrev pub IsFaultBehind : Known → List ℕ → List (List ℕ) → List ℕ → GatherFault → Type 0
IsFaultBehind known base before name (Untaken text) =
    (string_bytes text ≡ name) × (IsTrue (is_refused_behind before name) ⊎ IsUnreadableBelow known base name)
IsFaultBehind known base before name Memory = IsFalse (is_refused_behind before name)

-- The fault is that of the first name that has one: the names before it are good and different from each other.
pub record IsFirstFault (known : Known) (base : List ℕ) (names : List (List ℕ)) (fault : GatherFault) : Type 0 where
  pub before : List (List ℕ)
  pub name : List ℕ
  pub behind : List (List ℕ)
  pub stands : names ≡ before ++ name ∷ behind
  pub good : AreGoodNames before
  pub reported : IsFaultBehind known base before name fault
