-- Pairs of states that wait to be looked at: some first states, each with a list of second ones.
use Rattle.std.specs.Prelude.{◌≡◌, ◌↔◌, ◌⊎◌, ℕ, ◌≤◌, ◌==◌, if◌then◌else◌, List, [], ◌++◌, Contains, unwrap_or}
use Rattle.std.specs.BTreeMap.{is_at}
use Rattle.std.specs.Map.{lookup}
use Rattle.std.specs.Ordering.{nat_cmp}

-- the second states of a first one: the first list that belongs to it, and none where none does
abbrev pub row_at : List (ℕ × List ℕ) → ℕ → List ℕ
row_at rows q = unwrap_or (lookup (is_at (nat_cmp q)) rows) []

-- a first state has these second ones now, and every other one those that it had
abbrev pub SetsRow : List (ℕ × List ℕ) → List (ℕ × List ℕ) → ℕ → List ℕ → Type 0
SetsRow old new first row = (q : ℕ) → row_at new q ≡ (if first == q then row else row_at old q)

-- a pair waits
abbrev pub Waits : List (ℕ × List ℕ) → ℕ → ℕ → Type 0
Waits rows q r = Contains (row_at rows q) r

-- a list is a prefix of another
abbrev pub IsFrontOf : List ℕ → List ℕ → Type 0
IsFrontOf front all = (more : List ℕ) × (all ≡ front ++ more)

-- all pairs of a kind, and no others, were added to those that wait, after the others of their first state
pub record Gains (old new : List (ℕ × List ℕ)) (Kind : ℕ → ℕ → Type 0) : Type 0 where
  pub fronts : (q : ℕ) → IsFrontOf (row_at old q) (row_at new q)
  pub each : (q r : ℕ) → (Waits new q r ↔ (Waits old q r ⊎ Kind q r))

-- a pair of a kind, or such a pair swapped, with the lesser state first
abbrev pub Ordered : (ℕ → ℕ → Type 0) → ℕ → ℕ → Type 0
Ordered Kind q r = (q ≤ r) × (Kind q r ⊎ Kind r q)
