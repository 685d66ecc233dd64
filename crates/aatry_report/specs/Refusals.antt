-- How a refusal is reported: by its number and its name, or in words at its place in a file below a folder.
use Rattle.std.specs.Prelude.{ℕ, List, [], ◌++◌, codes, Option, None, Some}
use Rattle.std.specs.Fmt.{decimal}
use Rattle.serde_json.specs.Data.{Members}
use Rattle.aa_text_files.specs.Files.{File, bytes_at, name_at}
use Rattle.aa_text_files.specs.declared.text_error.Place.{Place}
use Rattle.aatry_report.specs.Faults.{fault_lines}
use Rattle.aatry_report.specs.FilePlaces.{path_below}
use Rattle.aatry_report.specs.Records.{with_number, with_text}

-- the number and the name of a refusal
abbrev pub named_refusal : ℕ → List ℕ → List ℕ
named_refusal number name = decimal number ++ codes " " ++ name

-- a record with both
abbrev pub with_named_refusal : ℕ → List ℕ → Members → Members
with_named_refusal number name members = with_text (codes "refusal") name (with_number (codes "number") number members)

-- the report on a refusal in words: at its place in one of the files below a folder, if it has one, and else by this name
abbrev pub placed_refusal : List ℕ → List File → List ℕ → List ℕ → ℕ → Option Place → List ℕ
placed_refusal words files base told_by number None = fault_lines words told_by number None []
placed_refusal words files base told_by number (Some place) =
    fault_lines words (path_below base (name_at files place.file)) number (Some place.at) (bytes_at files place.file)
