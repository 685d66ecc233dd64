-- What is remembered of runs takes at most so much memory. No answer depends on what is remembered.
use Rattle.std.specs.Prelude.{ℕ}

-- how many bytes are remembered at most, for all who ask together: 48 MiB
abbrev pub most_remembered : ℕ
most_remembered = 50331648
