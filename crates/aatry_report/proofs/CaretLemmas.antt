-- How long the line of a caret is.
use Rattle.std.proofs.Common.{◌≡◌, ℕ, ◌+◌, List, length, take, ap, ◌∙◌}
use Rattle.std.proofs.lemmas.List.{length-map, length_push}
use Rattle.std.proofs.lemmas.List.Sums.{length-filter}
use Rattle.aa_bytes.specs.Bytes.{caret}
use Rattle.aatry_report.specs.CaretLine.{blank_below, blanks_below, caret_line}
use Rattle.aatry_report.specs.Characters.{begins_character, first_bytes}
use Rattle.aatry_report.specs.Columns.{column}
use Rattle.aatry_report.specs.Lines.{last_line}

-- it ends at the column of its place
pub length-caret_line : (text : List ℕ) (at : ℕ) → length (caret_line text at) ≡ column text at
length-caret_line text at =
    let front = last_line (take at text) in
    length_push (blanks_below front) caret
    ∙ ap (λ n. n + 1) (length-map (first_bytes front) blank_below ∙ length-filter begins_character front)
