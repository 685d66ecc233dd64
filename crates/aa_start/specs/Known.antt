-- What is known of the files of a file system.
use Rattle.std.specs.Prelude.{◌≡◌, ℕ, List, Option, None, ⊤}
use Rattle.std.specs.declared.io.ErrorKind.{ErrorKind}
use Rattle.aa_start.specs.Reading.{read_fault_of}
use Rattle.aa_start.specs.declared.reading.ReadFault.TheVariants.{Unreadable}

-- the bytes at a path, where they are known, and at which paths no file can be opened, or none can be read to its end
pub record Known : Type 1 where
  pub bytes_at : List ℕ → Option (List ℕ)
  pub IsUnreadable : List ℕ → Type 0

-- nothing is known of any file: each may be unreadable
abbrev pub nothing_known : Known
nothing_known = record { bytes_at = λ _. None; IsUnreadable = λ _. ⊤ }

-- An error of this kind says that the file at a path can't be read, where it isn't for want of memory.
abbrev pub SaysUnreadable : Known → List ℕ → ErrorKind → Type 0
SaysUnreadable known path kind = read_fault_of kind ≡ Unreadable → known.IsUnreadable path
