-- The note after the reply to a line that loads a file: that the disk has another one now.
use Rattle.std.specs.Prelude.{◌≡◌, ◌⊎◌, ℕ, if◌then◌else◌, List, [], ◌∷◌, ◌++◌, Option, None, Some, IsUtf8, codes}
use Rattle.std.specs.Str.{bytes_eq}
use Rattle.aa_bytes.specs.Bytes.{line_feed}
use Rattle.aa_text_files.specs.Files.{File, bytes_at, bytes_of}
use Rattle.aa_start.specs.Known.{Known}
use Rattle.aatry_folder.specs.OneFile.{IsFileAt}
use Rattle.aatry_folder.specs.Unread.{IsOfFile}
use Rattle.aatry_folder.specs.declared.fault.Fault.{Fault}
use Rattle.aatry_report.specs.FilePlaces.{path_below}
use Rattle.aatry_report.specs.Shown.{shown}

-- the line that says that the disk has a newer file of a name
abbrev pub newer_line : List ℕ → List ℕ → List ℕ
newer_line base name = codes "note: " ++ shown (path_below base name) ++ codes " is newer on disk: reload takes it" ++ line_feed ∷ []

-- the note on a file of which a session has these bytes, and the disk those
abbrev pub noted : List ℕ → List ℕ → List ℕ → List ℕ → List ℕ
noted base name bytes later = if bytes_eq later bytes then [] else newer_line base name

-- No file could be read at a path: for some fault, or since the path is no text.
abbrev pub IsUnreadAt : Known → List ℕ → Type 0
IsUnreadAt known path = ((fault : Fault) × IsOfFile known path fault) ⊎ (¬ (IsUtf8 path))

-- A file of which a session has these bytes was read again, at its path below the folder, and the text says whether the disk has a newer one. Or
-- none could be read there, and nothing is noted.
abbrev pub IsNotedOf : Known → List ℕ → List ℕ → List ℕ → List ℕ → Type 0
IsNotedOf known base name bytes text =
    ((found : List File) × IsFileAt known (path_below base name) found × (text ≡ noted base name bytes (bytes_at found 0)))
    ⊎ (IsUnreadAt known (path_below base name) × (text ≡ []))

-- the note on a file of this name, if the session has one
abbrev pub IsNotedIf : Known → List ℕ → List ℕ → Option (List ℕ) → List ℕ → Type 0
IsNotedIf known base name None text = text ≡ []
IsNotedIf known base name (Some bytes) text = IsNotedOf known base name bytes text

-- The note on the file whose profiles a line loads, if it loads any, among the files that the session has. No file that it includes is read.
abbrev pub IsNoted : Known → List ℕ → List File → Option (List ℕ) → List ℕ → Type 0
IsNoted known base files None text = text ≡ []
IsNoted known base files (Some name) text = IsNotedIf known base name (bytes_of files name) text
