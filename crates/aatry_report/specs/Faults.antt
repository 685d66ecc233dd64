-- The report on a fault in a file of policy.
use Rattle.std.specs.Prelude.{ℕ, List, [], ◌∷◌, ◌++◌, codes, Option, None, Some}
use Rattle.std.specs.Fmt.{decimal}
use Rattle.serde_json.specs.Data.{Members}
use Rattle.aa_bytes.specs.Bytes.{line_feed}
use Rattle.aatry_report.specs.CaretLine.{caret_line}
use Rattle.aatry_report.specs.Columns.{column}
use Rattle.aatry_report.specs.FilePlaces.{with_place}
use Rattle.aatry_report.specs.Lines.{line_at, line_number}
use Rattle.aatry_report.specs.Records.{with_number, with_text}
use Rattle.aatry_report.specs.Shown.{shown}

-- `PATH:LINE:COLUMN: `
abbrev pub line_place_text : List ℕ → ℕ → ℕ → List ℕ
line_place_text path line column = shown path ++ codes ":" ++ decimal line ++ codes ":" ++ decimal column ++ codes ": "

-- the line and the column of a place in a file's bytes, after its path
abbrev pub place_text : List ℕ → List ℕ → ℕ → List ℕ
place_text path text at = line_place_text path (line_number text at) (column text at)

-- the words of the fault, with its number, and the line's end
abbrev pub words_text : List ℕ → ℕ → List ℕ
words_text words number = words ++ codes " (" ++ decimal number ++ codes ")" ++ line_feed ∷ []

-- a record with the same words and number
abbrev pub with_words : List ℕ → ℕ → Members → Members
with_words words number members = with_text (codes "words") words (with_number (codes "number") number members)

-- the line of a place, and a line with a caret below the place
abbrev pub marked_line : List ℕ → ℕ → List ℕ
marked_line text at = shown (line_at text at) ++ line_feed ∷ [] ++ caret_line text at ++ line_feed ∷ []

-- the report on a fault of this number at a place of a file, if it has one
abbrev pub fault_lines : List ℕ → List ℕ → ℕ → Option ℕ → List ℕ → List ℕ
fault_lines words path number None text = shown path ++ codes ": " ++ words_text words number
fault_lines words path number (Some at) text = place_text path text at ++ words_text words number ++ marked_line text at

-- a record with a fault of this number at a place of a file, if it has one: the name of the file in reports, the words, and the line of the place
abbrev pub with_fault : List ℕ → List ℕ → ℕ → Option ℕ → List ℕ → Members → Members
with_fault words path number None text members = with_text (codes "file") path (with_words words number members)
with_fault words path number (Some at) text members =
    with_text (codes "text") (line_at text at) (with_place path text at (with_words words number members))
