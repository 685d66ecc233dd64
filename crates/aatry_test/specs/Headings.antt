-- The heading of the report on a line of a transcript.
use Rattle.std.specs.Prelude.{ℕ, List, [], ◌∷◌, ◌++◌, codes}
use Rattle.std.specs.Fmt.{decimal}
use Rattle.aa_bytes.specs.Bytes.{line_feed}
use Rattle.aatry_report.specs.Shown.{shown}

-- its path, its number from 1, and the line itself
abbrev pub heading : List ℕ → ℕ → List ℕ → List ℕ
heading path number line = shown path ++ codes ":" ++ decimal number ++ codes ": " ++ shown line ++ line_feed ∷ []
