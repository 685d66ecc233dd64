-- The files that are left out of a new folder of policy and not of the old one, by their names (docs/aatry.md).
use Rattle.std.specs.Prelude.{ℕ, Bool, ◌||◌, false, if◌then◌else◌, List, [], ◌∷◌, codes, flat_map}
use Rattle.std.specs.Str.{bytes_eq}
use Rattle.aatry_policy.specs.Folders.{Folder, files_left_out}
use Rattle.aatry_policy.specs.LeftOut.{LeftOut, LeftOutWords, told_files}
use Rattle.aatry_report.specs.declared.form.Form.{Form}

-- a file of this name is among some
abbrev pub has_name : List LeftOut → List ℕ → Bool
has_name [] name = false
has_name (file ∷ files) name = bytes_eq file.name name || has_name files name

-- a file, if none of its name is among the old ones
abbrev pub newly_if : List LeftOut → LeftOut → List LeftOut
newly_if old file = if has_name old file.name then [] else file ∷ []

-- the new files of which none has the name of an old one
abbrev pub newly : List LeftOut → List LeftOut → List LeftOut
newly old new = flat_map (newly_if old) new

-- the files that are newly left out of a folder
abbrev pub newly_left_out : Folder → Folder → List LeftOut
newly_left_out old new = newly (files_left_out old) (files_left_out new)

-- the words for such a file
abbrev pub newly_words : LeftOutWords
newly_words = record { kind = codes "newly_left_out"; before = codes "newly left out: "; behind = codes ": " }

-- the report on such files of a folder
abbrev pub newly_lines : Form → Folder → List LeftOut → List ℕ
newly_lines form folder files = told_files form newly_words folder.language folder.base folder.files folder.unread files
