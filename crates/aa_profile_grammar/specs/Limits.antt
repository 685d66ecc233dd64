-- The limit of a profile's file (docs/commands.md, "Limits").
use Rattle.std.specs.Prelude.{ℕ}

-- how many rules a file may have
abbrev pub most_rules : ℕ
most_rules = 16384
