-- What is known of the files that are replaced.
use Rattle.std.specs.Prelude.{◌≡◌, List, ◌∷◌, ◌++◌, Option, Some, None, ⊤}
use Rattle.std.specs.declared.io.ErrorKind.{ErrorKind}
use Rattle.std.specs.declared.io.ErrorKind.TheVariants as kind
use Rattle.aa_text_files.specs.Files.{File}
use Rattle.aatry_folder.specs.declared.fault.Fault.{Fault}
use Rattle.aatry_folder.specs.declared.fault.Fault.TheVariants.{NoMemory, Write}

-- The files that were replaced so far, each by its path with its new bytes, grow by these in their order, where they are known.
abbrev pub Replaces : Option (List File) → Option (List File) → List File → Type 0
Replaces None after files = ⊤
Replaces (Some before) None files = ⊥
Replaces (Some before) (Some after) files = after ≡ before ++ files

-- Of these files, one couldn't be replaced: those before it were, and no other.
abbrev pub ReplacesUpTo : Option (List File) → Option (List File) → List File → Type 0
ReplacesUpTo before after files = (front : List File) × (failed : File) × (rest : List File) × (files ≡ front ++ failed ∷ rest) × Replaces before after front

-- the program's fault for an error of this kind, where a file couldn't be replaced
abbrev pub fault_of_store : ErrorKind → Fault
fault_of_store kind.OutOfMemory = NoMemory
fault_of_store _ = Write

-- a fault can be that of a store
abbrev pub IsOfStore : Fault → Type 0
IsOfStore NoMemory = ⊤
IsOfStore Write = ⊤
IsOfStore fault = ⊥
