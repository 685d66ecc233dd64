-- How much may be read.
use Rattle.std.specs.Prelude.{ℕ}

-- how many bytes the files that are read for one may have together, each counted as often as it is entered
abbrev pub most_bytes : ℕ
most_bytes = 16777216
