-- What a reader gives, and why the bytes of a file aren't known.
use Rattle.std.specs.Prelude.{◌≡◌, ◌==◌, ℕ, Bool, false, List, [], ◌∷◌, ◌++◌, Option, codes, if◌then◌else◌}
use Rattle.std.specs.Io.KnownBytes.{Consumes}
use Rattle.std.specs.declared.io.ErrorKind.{ErrorKind}
use Rattle.std.specs.declared.io.ErrorKind.TheVariants as kind
use Rattle.aa_start.specs.declared.reading.ReadFault.{ReadFault}
use Rattle.aa_start.specs.declared.reading.ReadFault.TheVariants.{Unreadable, Memory}

-- a name that is a whole path: it begins with `/`
abbrev pub is_whole_path : List ℕ → Bool
is_whole_path [] = false
is_whole_path (b ∷ rest) = b == 47

-- the path of a name: itself where it begins with `/`, and else one below the base
abbrev pub path_of : List ℕ → List ℕ → List ℕ
path_of base name = if is_whole_path name then name else (base ++ codes "/") ++ name

-- the system's refusal for want of memory is kept apart from all other refusals
abbrev pub read_fault_of : ErrorKind → ReadFault
read_fault_of kind.OutOfMemory = Memory
read_fault_of _ = Unreadable

-- what a reader gave, where its bytes are known, follows the bytes that were there
abbrev pub ReadsBehind : Option (List ℕ) → List ℕ → Option (List ℕ) → List ℕ → Type 0
ReadsBehind left bytes left_after bytes_after = (read : List ℕ) × Consumes left left_after read × (bytes_after ≡ bytes ++ read)
