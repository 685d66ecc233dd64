-- Which visits a path takes, by the patterns: at each place of it one for each of their different beginnings that is read there.
use Rattle.std.specs.Prelude.{◌≡◌, ℕ, true, List}
use Rattle.aa_glob_pattern.specs.Beginnings.{IsBeginning}
use Rattle.aa_glob_pattern.specs.Reads.{reads}
use Rattle.aa_glob_pattern.specs.Trails.{Trail}

-- a text, which is written with its last byte first, reads a beginning of one of the patterns
abbrev pub IsReadOf : List (List ℕ) → List ℕ → Trail → Type 0
IsReadOf patterns past trail = IsBeginning patterns trail × (reads trail past ≡ true)
