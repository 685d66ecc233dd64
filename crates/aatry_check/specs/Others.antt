-- The report below a refusal on the earlier rule, with which the refused one conflicts.
use Rattle.std.specs.Prelude.{ℕ, List, [], ◌∷◌, ◌++◌, codes}
use Rattle.serde_json.specs.Data.{Members}
use Rattle.aa_bytes.specs.Bytes.{line_feed}
use Rattle.aa_text_files.specs.Files.{File, bytes_at, name_at}
use Rattle.aa_text_files.specs.declared.text_error.Place.{Place}
use Rattle.aatry_report.specs.Columns.{column}
use Rattle.aatry_report.specs.Faults.{marked_line, place_text}
use Rattle.aatry_report.specs.FilePlaces.{path_below}
use Rattle.aatry_report.specs.Lines.{line_at, line_number}
use Rattle.aatry_report.specs.Records.{with_number, with_text}

-- the words that follow the place of that rule, and the line's end
abbrev pub other_words : List ℕ
other_words = codes "the rule before it" ++ line_feed ∷ []

-- the place of that rule in a file, its line, and a line with a caret below the place
abbrev pub other_text : List ℕ → List ℕ → ℕ → List ℕ
other_text path text at = place_text path text at ++ other_words ++ marked_line text at

-- a record with the place and its line
abbrev pub with_other_text : List ℕ → List ℕ → ℕ → Members → Members
with_other_text path text at members =
    with_text (codes "other_text") (line_at text at)
    (with_number (codes "other_column") (column text at) (with_number (codes "other_line") (line_number text at) (with_text (codes "other_file") path members)))

-- the place of that rule in one of the files below a folder, with its line
abbrev pub other_lines : List File → List ℕ → Place → List ℕ
other_lines files base place = other_text (path_below base (name_at files place.file)) (bytes_at files place.file) place.at

abbrev pub with_other : List File → List ℕ → Place → Members → Members
with_other files base place members = with_other_text (path_below base (name_at files place.file)) (bytes_at files place.file) place.at members
