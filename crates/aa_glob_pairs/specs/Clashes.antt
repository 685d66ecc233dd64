-- Patterns of different classes that end at the states of a pair, and the least number of a kind.
use Rattle.std.specs.Prelude.{◌≡◌, ◌⊎◌, ℕ, ◌<◌, ◌≤◌, Contains, List, Option, None, Some}
use Rattle.aa_glob_pairs.specs.declared.ends.Ending.{Ending}

-- a pattern of the second list clashes with an earlier one of the first: their classes differ
abbrev pub Clash : List Ending → List Ending → ℕ → Type 0
Clash first second pattern =
    (e : Ending) × (f : Ending) × Contains first e × Contains second f × (e.class ≡ f.class → ⊥) × (e.pattern < f.pattern) × (f.pattern ≡ pattern)

-- the least number of a kind, or `None` where there is none
abbrev pub IsLeast : Option ℕ → (ℕ → Type 0) → Type 0
IsLeast None Kind = (k : ℕ) → Kind k → ⊥
IsLeast (Some least) Kind = Kind least × ((k : ℕ) → Kind k → least ≤ k)

-- there is a number, and it isn't greater than this one
abbrev pub IsAtMost : Option ℕ → ℕ → Type 0
IsAtMost found k = (least : ℕ) × (found ≡ Some least) × (least ≤ k)

-- what was found is lowered to the least number of a kind, if that is lower
pub record Lowers (old new : Option ℕ) (Kind : ℕ → Type 0) : Type 0 where
  pub there : (k : ℕ) → new ≡ Some k → (old ≡ Some k) ⊎ Kind k
  pub kept : (k : ℕ) → IsAtMost old k → IsAtMost new k
  pub least : (k : ℕ) → Kind k → IsAtMost new k
