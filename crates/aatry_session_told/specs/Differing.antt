-- How the files that a session read differ from those on disk now, by their names and bytes. Folders have no bytes, and aren't compared; nor are
-- whole paths, which are further names of files (docs/aatry.md).
use Rattle.std.specs.Prelude.{ℕ, Bool, ◌||◌, if◌then◌else◌, List, [], ◌∷◌, ◌++◌, codes, flat_map, length, slice_index_or, Option, None, Some}
use Rattle.std.specs.List.{sum_by}
use Rattle.std.specs.Fmt.{decimal}
use Rattle.std.specs.Str.{bytes_eq}
use Rattle.aa_bytes.specs.Bytes.{line_feed, slash}
use Rattle.aa_bytes.specs.Texts.{begins_with_byte}
use Rattle.aa_text_files.specs.Files.{File, bytes_of, has_file, is_folder_name}
use Rattle.aatry_report.specs.FilePlaces.{path_below}
use Rattle.aatry_report.specs.Shown.{shown}
use Rattle.aatry_session_told.specs.declared.differing.Differs.{Differs}
use Rattle.aatry_session_told.specs.declared.differing.Differs.TheVariants.{Gone, New, Newer}
use Rattle.aatry_session_told.specs.declared.differing.Side.{Side}
use Rattle.aatry_session_told.specs.declared.differing.Side.TheVariants.{Disk, Read}

-- the file at an index, where there is one
abbrev pub at_place : List File → ℕ → File
at_place files place = slice_index_or files place ([], [])

-- a name that isn't compared: a folder's, or a whole path
abbrev pub is_apart : List ℕ → Bool
is_apart name = is_folder_name name || begins_with_byte slash name

-- a file that differs: its name, and how
pub record Difference : Type 0 where
  pub name : List ℕ
  pub how : Differs

-- how a file with these bytes differs from what the disk has of its name now, if it does
abbrev pub gone_or_newer : List ℕ → Option (List ℕ) → Option Differs
gone_or_newer bytes None = Some Gone
gone_or_newer bytes (Some later) = if bytes_eq later bytes then None else Some Newer

-- how a file that was read differs from those of the disk, if it does
abbrev pub read_differs : List File → File → Option Differs
read_differs disk file = if is_apart file.0 then None else gone_or_newer file.1 (bytes_of disk file.0)

-- how a file of the disk differs from those that were read only by its name, if it does: none of its name was read
abbrev pub disk_differs : List File → List ℕ → Option Differs
disk_differs read name = if is_apart name || has_file read name then None else Some New

-- how a file of one side differs from those of the other, if it does
abbrev pub side_differs : Side → List File → File → Option Differs
side_differs Read others file = read_differs others file
side_differs Disk others file = disk_differs others file.0

-- a file of this name, if it differs
abbrev pub difference_if : List ℕ → Option Differs → List Difference
difference_if name None = []
difference_if name (Some how) = record { name = name; how = how } ∷ []

-- a file of one side, if it differs from those of the other
abbrev pub difference_of : Side → List File → File → List Difference
difference_of side others file = difference_if file.0 (side_differs side others file)

-- All files that differ: those that were read, in their order, followed by those that only the disk has, in theirs.
abbrev pub differences : List File → List File → List Difference
differences read disk = flat_map (difference_of Read disk) read ++ flat_map (difference_of Disk read) disk

-- how a file differs, in words
abbrev pub words_of : Differs → List ℕ
words_of Newer = codes "newer on disk: "
words_of Gone = codes "gone from disk: "
words_of New = codes "new on disk: "

-- the line of a file that differs
abbrev pub difference_line : List ℕ → Difference → List ℕ
difference_line base difference = words_of difference.how ++ shown (path_below base difference.name) ++ line_feed ∷ []

-- a name counts as one file, and one that isn't compared as none
abbrev pub counted : List ℕ → ℕ
counted name = if is_apart name then 0 else 1

-- how many of these are files
abbrev pub file_count : List File → ℕ
file_count files = sum_by (λ file. counted file.0) files

-- the line on how many files were read, and how many differ
abbrev pub count_line : ℕ → ℕ → List ℕ
count_line files differing = codes "files " ++ decimal files ++ codes ", differing " ++ decimal differing ++ line_feed ∷ []

-- the report on files that were read and those of the disk: a line for each that differs, and how many there are
abbrev pub differing_lines : List ℕ → List File → List File → List ℕ
differing_lines base read disk =
    flat_map (difference_line base) (differences read disk) ++ count_line (file_count read) (length (differences read disk))
