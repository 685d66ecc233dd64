-- Which faults keep a folder of policy, or a file, from being read, and when.
use Rattle.std.specs.Prelude.{◌≡◌, ◌⊎◌, ℕ, IsTrue, true, List, [], ◌∷◌, ◌++◌, codes, string_bytes, ⊤}
use Rattle.aa_text_files.specs.Files.{is_folder_name}
use Rattle.aa_start.specs.Gathering.{IsUnreadableBelow}
use Rattle.aa_start.specs.Known.{Known}
use Rattle.aa_start.specs.Names.{is_bad_name}
use Rattle.aa_start.specs.Readable.{IsFirstRefusal}
use Rattle.aa_start.specs.declared.gathering.GatherFault.{GatherFault}
use Rattle.aa_start.specs.declared.gathering.GatherFault.TheVariants as files
use Rattle.aatry_folder.specs.NamesBelow.{Answer, AreFound, IsFault, IsWalk}
use Rattle.aatry_folder.specs.Told.{ToldFolders}
use Rattle.aatry_folder.specs.declared.below.FolderFault.TheVariants as folder
use Rattle.aatry_folder.specs.declared.fault.Fault.{Fault}
use Rattle.aatry_folder.specs.declared.fault.Fault.TheVariants.{Unreadable, TooMany, NoMemory}

-- All names below a folder of policy were found, and this is the refusal of the first of them under which no file can be taken.
pub record IsOfFound (folders : ToldFolders) (base : List ℕ) (fault : GatherFault) : Type 0 where
  pub answers : List Answer
  pub names : List (List ℕ)
  pub walked : IsWalk folders base answers names
  pub found : AreFound folders base [] names
  pub first : IsFirstRefusal names fault

-- A fault keeps a folder of policy from being read: a folder that is found can't be, or a name that is found is none for a file; too many are found;
-- or memory ran out. That a file can't be read is none.
abbrev pub IsOfFolder : ToldFolders → List ℕ → Fault → Type 0
IsOfFolder folders base (Unreadable name) =
    IsFault folders base (folder.Unreadable name) ⊎ IsOfFound folders base (files.Untaken name)
IsOfFolder folders base TooMany = IsFault folders base folder.TooMany
IsOfFolder folders base NoMemory = ⊤
IsOfFolder folders base fault = ⊥

-- A fault keeps the file at a path of its own from being read: the path, which the fault has, is that of a folder or a bad name, or the file can't
-- be read; or memory ran out. A relative path starts in the current folder.
abbrev pub IsOfFile : Known → List ℕ → Fault → Type 0
IsOfFile known path (Unreadable name) =
    (string_bytes name ≡ path)
    × ((is_folder_name path ≡ true) ⊎ IsTrue (is_bad_name path) ⊎ IsUnreadableBelow known (codes ".") path)
IsOfFile known path NoMemory = ⊤
IsOfFile known path fault = ⊥

-- a fault keeps one of the files at these paths from being read
abbrev pub IsOfOneFile : Known → List (List ℕ) → Fault → Type 0
IsOfOneFile known paths fault =
    (before : List (List ℕ)) × (path : List ℕ) × (behind : List (List ℕ)) × (paths ≡ before ++ path ∷ behind) × IsOfFile known path fault
