-- The answers of a file system on its folders.
use Rattle.std.specs.Prelude.{◌≡◌, ℕ, Bool, false, List, Option, ⊤}
use Rattle.std.specs.Cmp.Lexicographic.{slice_cmp}
use Rattle.std.specs.List.Sorted.{IsSorted}
use Rattle.std.specs.Ordering.{nat_cmp}
use Rattle.std.specs.declared.io.ErrorKind.{ErrorKind}
use Rattle.aatry_folder.specs.Links.{is_for_memory}

-- Which members the folder at a path has, at which paths no folder can be read, whether something exists at a path, and which whole path a path
-- leads to, if it leads to one, by the file system. It may answer otherwise each time that it is asked.
pub record ToldFolders : Type 1 where
  pub HasMembers : List ℕ → List (List ℕ) → Type 0
  pub IsUnreadable : List ℕ → Type 0
  pub IsThere : List ℕ → Bool → Type 0
  pub IsWhole : List ℕ → Option (List ℕ) → Type 0

-- any answer is possible, where the members are in the order of their names' bytes
abbrev pub anything_in_order : ToldFolders
anything_in_order = record {
  HasMembers = λ _ members. IsSorted (slice_cmp nat_cmp) members;
  IsUnreadable = λ _. ⊤;
  IsThere = λ _ _. ⊤;
  IsWhole = λ _ _. ⊤;
}

-- An error of this kind says that the folder at a path can't be read, where it isn't for want of memory.
abbrev pub SaysUnreadable : ToldFolders → List ℕ → ErrorKind → Type 0
SaysUnreadable told path kind = is_for_memory kind ≡ false → told.IsUnreadable path
