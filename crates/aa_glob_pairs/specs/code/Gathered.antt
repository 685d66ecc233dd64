-- Moves and ends that are collected one after the other.
use Rattle.std.specs.Prelude.{◌≡◌, ◌↔◌, ◌⊎◌, ℕ, ◌^◌, ◌<◌, Contains, List}
use Rattle.aa_glob_nfa.specs.Graphs.{Graph, IsFree, Stays, Takes}
use Rattle.aa_glob_nfa.specs.declared.state.End.{End}
use Rattle.aa_glob_pairs.specs.Graphs.{class_at}
use Rattle.aa_glob_pairs.specs.Nodes.{HasStep}
use Rattle.aa_glob_pairs.specs.declared.ends.Ending.{Ending}
use Rattle.aa_glob_pairs.specs.declared.moves.Moves.{Moves}

-- some free moves and some steps were added to moves
pub record Gets (old new : Moves) (Free : ℕ → Type 0) (Steps : ℕ → ℕ → Type 0) : Type 0 where
  pub free : (x : ℕ) → (Contains new.free.items x ↔ (Contains old.free.items x ⊎ Free x))
  pub steps : (c x : ℕ) → c < 2 ^ 8 → (HasStep new.steps.items c x ↔ (HasStep old.steps.items c x ⊎ Steps c x))

-- the moves to the states of a kind were added to moves
abbrev pub GetsLed : Graph → Moves → Moves → (ℕ → Type 0) → Type 0
GetsLed g old new Led = Gets old new (λ x. Led x × IsFree g x) (λ c x. Led x × Takes g x c)

-- the moves that stay in a state were added to moves
abbrev pub GetsStay : Graph → Moves → Moves → ℕ → Type 0
GetsStay g old new q = Gets old new (λ x. ⊥) (λ c x. (x ≡ q) × Stays g q c)

-- the patterns of some ends are collected, with their classes
abbrev pub AreGathered : List ℕ → List End → List Ending → Type 0
AreGathered classes ends endings =
    (e : Ending) → (Contains endings e ↔ ((end : End) × Contains ends end × (e.pattern ≡ end.pattern) × (e.class ≡ class_at classes end.pattern)))
