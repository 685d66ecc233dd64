-- Walks over files, found among some.
use Rattle.std.proofs.Common.{◌≡◌, ℕ, ◌==◌, List, Some, get_or, position, subst}
use Rattle.std.proofs.lemmas.Bool.{eqb-true}
use Rattle.std.proofs.lemmas.List.Elements.{All-get_or}
use Rattle.std.proofs.lemmas.List.Quantifiers.{position-Some}
use Rattle.aa_text_files.specs.Files.{File, bytes_at}
use Rattle.aatry_report.specs.Walks.{IsOf}
use Rattle.aatry_why_lines.specs.Finding.{AreOfTheirFiles, IsOfItsFile}
use Rattle.aatry_why_lines.specs.declared.finding.FileWalk.{FileWalk}

-- the walk that is found by a file's number is one of that file
pub found_walk : (files : List File) (walks : List FileWalk) (file index : ℕ) (d : FileWalk) → AreOfTheirFiles files walks
    → position (λ own. own.file == file) walks ≡ Some index → IsOf (bytes_at files file) (get_or walks index d).walk
found_walk files walks file index d own found =
    let at = position-Some (λ own. own.file == file) walks index d found in
    let its = All-get_or (IsOfItsFile files) walks index d at.0 own in
    subst (λ n. IsOf (bytes_at files n) (get_or walks index d).walk) (eqb-true (get_or walks index d).file file at.1) its
