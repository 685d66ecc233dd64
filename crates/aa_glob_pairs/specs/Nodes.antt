-- What leads away from a state, as lists, and the pairs of states that are reached by following one text twice.
use Rattle.std.specs.Prelude.{◌≡◌, ◌⊎◌, ℕ, ◌^◌, ◌<◌, true, Contains, List}
use Rattle.aa_glob_pairs.specs.Bytes.{in_bytes}
use Rattle.aa_glob_pairs.specs.declared.moves.Moves.{Moves}
use Rattle.aa_glob_pairs.specs.declared.moves.Step.{Step}

-- a byte leads along one of some steps to a state
abbrev pub HasStep : List Step → ℕ → ℕ → Type 0
HasStep steps c x = (step : Step) × Contains steps step × (step.to ≡ x) × (in_bytes step.bytes c ≡ true)

-- one byte leads along one of some steps to a state, and along one of others to another
abbrev pub AreShared : List Step → List Step → ℕ → ℕ → Type 0
AreShared first second x y = (c : ℕ) × (c < 2 ^ 8) × HasStep first c x × HasStep second c y

-- a pair follows from a pair of states whose moves these are: one moves without a byte and the other stays, or both move by one byte
abbrev pub FollowsBy : Moves → Moves → ℕ → ℕ → ℕ → ℕ → Type 0
FollowsBy m k q r x y =
    (Contains m.free.items x × (y ≡ r)) ⊎ (((x ≡ q) × Contains k.free.items y) ⊎ AreShared m.steps.items k.steps.items x y)
