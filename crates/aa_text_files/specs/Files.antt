-- The files: a list of names with their bytes, in the order in which they were inserted (docs/commands.md).
use Rattle.std.specs.Prelude.{ℕ, ◌≡◌, ◌+◌, ◌-◌, Bool, true, ◌==◌, ◌||◌, ◌&&◌, not, nat_lt, if◌then◌else◌, List, [], ◌∷◌, length, map, slice_index, slice_index_or, Option, None, Some, is_some, Vec, codes}
use Rattle.std.specs.List.{list_any}
use Rattle.std.specs.Str.{bytes_eq}
use Rattle.aa_bytes.specs.Bytes.{slash, space}
use Rattle.aa_text_files.specs.declared.files.FilesError.{FilesError}
use Rattle.aa_text_files.specs.declared.files.FilesError.TheVariants.{BadFile, Twice, Memory}

-- a file: its name and its bytes
abbrev pub File : Type 0
File = List ℕ × List ℕ

-- a name whose last byte is `/` declares a folder
abbrev pub is_folder_name : List ℕ → Bool
is_folder_name name = slice_index name (length name - 1) == slash

-- bytes below the space are control bytes, and none is part of a name
abbrev pub has_control_byte : List ℕ → Bool
has_control_byte name = list_any (λ b. nat_lt b space) name

-- A file that is refused: the name is empty, or it holds a control byte, or it declares a folder and yet there are bytes.
abbrev pub is_bad_file : List ℕ → List ℕ → Bool
is_bad_file name bytes = length name == 0 || has_control_byte name || (is_folder_name name && not (length bytes == 0))

-- the bytes of the file or folder of that name
abbrev pub file_named : List File → List ℕ → Option (List ℕ)
file_named [] name = None
file_named (file ∷ files) name = if bytes_eq name file.0 then Some file.1 else file_named files name

-- a file or folder of that name is there
abbrev pub has_file : List File → List ℕ → Bool
has_file files name = is_some (file_named files name)

-- no two files have one name
abbrev pub have_names_of_their_own : List File → Bool
have_names_of_their_own [] = true
have_names_of_their_own (file ∷ files) = not (has_file files file.0) && have_names_of_their_own files

-- none of the files is one that is refused: each has a name, and a folder has no bytes
abbrev pub are_good : List File → Bool
are_good [] = true
are_good (file ∷ files) = not (is_bad_file file.0 file.1) && are_good files

-- what holds of all files that were inserted
abbrev pub AreTaken : List File → Type 0
AreTaken files = (have_names_of_their_own files ≡ true) × (are_good files ≡ true)

-- what can be read under a name: a folder has no bytes to read
abbrev pub bytes_of : List File → List ℕ → Option (List ℕ)
bytes_of files name = if is_folder_name name then None else file_named files name

-- the index of a name among the files
abbrev pub index_from : ℕ → List ℕ → List File → Option ℕ
index_from at name [] = None
index_from at name (file ∷ files) = if bytes_eq name file.0 then Some at else index_from (at + 1) name files

-- the index of a file, which is no folder, by its name
abbrev pub file_at : List File → List ℕ → Option ℕ
file_at files name = if is_folder_name name then None else index_from 0 name files

abbrev pub name_at : List File → ℕ → List ℕ
name_at files file = (slice_index_or files file ([], [])).0

abbrev pub bytes_at : List File → ℕ → List ℕ
bytes_at files file = (slice_index_or files file ([], [])).1

-- files whose names and bytes are in vectors, without the capacities
abbrev pub as_files : {A B : Type 0} → List (Vec ℕ A × Vec ℕ B) → List File
as_files entries = map (λ e. (e.0.items, e.1.items)) entries

-- the number and the name of each refusal
abbrev pub described : FilesError → ℕ × List ℕ
described BadFile = (70, codes "BadFile")
described Twice = (71, codes "Twice")
described Memory = (99, codes "Memory")
