-- What an automaton that is being built stands for: the patterns so far.
use Rattle.std.specs.Prelude.{◌≡◌, ℕ, List, length}
use Rattle.aa_glob.specs.Automata.{AreRead}
use Rattle.aa_glob.specs.code.Followed.{Between}
use Rattle.aa_glob.specs.declared.growing.Growing.{Growing}

-- what has grown, and how many patterns there are, stand for these patterns
pub record IsBuilt (built : Growing × ℕ) (patterns : List (List ℕ)) : Type 0 where
  pub between : Between patterns built.0
  pub read : AreRead patterns
  pub count : built.1 ≡ length patterns

-- they stand for some patterns
abbrev pub IsOfSome : Growing → ℕ → Type 0
IsOfSome growing count = (patterns : List (List ℕ)) × IsBuilt (growing, count) patterns
