-- What the words that the code cuts from a line hold.
use Rattle.std.specs.Prelude.{ℕ, List, map, take}
use Rattle.aa_set_commands.specs.declared.words.Words.{Words}

-- the texts of the words in use
abbrev pub texts : Words → List (List ℕ)
texts found = map (λ word. word.now) (take found.count found.words)
