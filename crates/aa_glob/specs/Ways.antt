-- Ways that are drawn to one state.
use Rattle.std.specs.Prelude.{◌≡◌, ◌⊎◌, ◌↔◌, ℕ, Contains, List}
use Rattle.aa_glob_nfa.specs.Graphs.{Graph, Leads}

-- ways were added from each of these states to one, and nothing else
pub record AddsWays (old new : Graph) (from : List ℕ) (to : ℕ) : Type 0 where
  pub entries : new.entries ≡ old.entries
  pub ways : (q r : ℕ) → (Leads new q r ↔ (Leads old q r ⊎ (Contains from q × (r ≡ to))))
  pub ends : new.ends ≡ old.ends
