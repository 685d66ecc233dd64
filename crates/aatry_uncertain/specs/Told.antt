-- The report on profiles of files that are left out, on which an answer could depend (docs/aatry.md).
use Rattle.std.specs.Prelude.{ℕ, if◌then◌else◌, List, [], ◌∷◌, Option, None, Some, codes, flat_map}
use Rattle.std.specs.Str.{bytes_eq}
use Rattle.aa_profile_data.specs.FullNames.{full_name}
use Rattle.aatry_report.specs.FilePlaces.{path_below}
use Rattle.aatry_report.specs.Fields.{Quoted, Said, Text, Words, told}
use Rattle.aatry_report.specs.declared.form.Form.{Form}
use Rattle.aatry_uncertain.specs.Fitting.{may_fit}
use Rattle.aatry_uncertain.specs.LeftOutHeads.{LeftOutHead}

-- the pattern by which a profile may attach, if that is given, and the words before it
abbrev pub attachment_words : Option (List ℕ) → Said
attachment_words None = Words []
attachment_words (Some pattern) = Words (codes ", which may be attached by ")

abbrev pub attachment : Option (List ℕ) → Said
attachment None = Words []
attachment (Some pattern) = Quoted (codes "pattern") pattern

-- a profile of a file that is left out, by the file's path, as a line or a record
abbrev pub unsure_text : Form → List ℕ → List ℕ → Option (List ℕ) → List ℕ
unsure_text form path name pattern =
    told form (codes "uncertain")
    (Words (codes "uncertain: ") ∷ Text (codes "file") path ∷ Words (codes " is left out, with the profile ") ∷ Quoted (codes "name") name
    ∷ attachment_words pattern ∷ attachment pattern ∷ [])

-- the line or record of a profile that may attach to a path
abbrev pub start_text : Form → List ℕ → List ℕ → LeftOutHead → List ℕ
start_text form base path left_out =
    if may_fit left_out.head.attachment path then unsure_text form (path_below base left_out.file) left_out.head.name left_out.head.attachment else []

-- the lines or records of all that may attach to it
abbrev pub start_lines : Form → List ℕ → List ℕ → List LeftOutHead → List ℕ
start_lines form base path heads = flat_map (start_text form base path) heads

-- the line or record of a profile, whatever its attachment
abbrev pub profile_text : Form → List ℕ → LeftOutHead → List ℕ
profile_text form base left_out = unsure_text form (path_below base left_out.file) left_out.head.name None

-- the line or record of a profile of this name
abbrev pub name_text : Form → List ℕ → List ℕ → LeftOutHead → List ℕ
name_text form base name left_out = if bytes_eq left_out.head.name name then profile_text form base left_out else []

-- the lines or records of all that have the name of the profile in a full name
abbrev pub name_lines : Form → List ℕ → List ℕ → List LeftOutHead → List ℕ
name_lines form base full heads = flat_map (name_text form base (full_name full).profile) heads
