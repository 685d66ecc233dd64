-- The limits of a run (docs/commands.md, "Limits").
use Rattle.std.specs.Prelude.{ℕ}

-- how many reads a run makes at most
abbrev pub most_reads : ℕ
most_reads = 2147483648
