-- The limits of the names in a policy set's history (docs/commands.md, "Limits").
use Rattle.std.specs.Prelude.{ℕ}

-- how many bytes the name of a mark has at most
abbrev pub longest_mark : ℕ
longest_mark = 255
