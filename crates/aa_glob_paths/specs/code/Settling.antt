-- States that stay live whatever follows.
use Rattle.std.specs.Prelude.{◌≢◌, ℕ, List}
use Rattle.aa_glob_nfa.specs.Graphs.{Graph, Stays}
use Rattle.aa_glob_paths.specs.Settled.{EndsPassedOver}

-- each byte but zero stays in a state, and wherever it is reached, a pattern that is passed over ends
pub record StaysPassedOver (g : Graph) (classes : List ℕ) (q : ℕ) : Type 0 where
  pub stays : (c : ℕ) → c ≢ 0 → Stays g q c
  pub ends : EndsPassedOver g classes q
