-- The limits of lines (docs/commands.md, "Limits").
use Rattle.std.specs.Prelude.{ℕ}

-- how many bytes a command line may have, without its line feed
abbrev pub longest_line : ℕ
longest_line = 65536

-- how many words a command line may have
abbrev pub most_words : ℕ
most_words = 7
