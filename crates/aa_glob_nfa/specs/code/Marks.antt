-- The bits that are kept with a list of states, once it is long.
use Rattle.std.specs.Prelude.{◌≡◌, ◌⊎◌, ℕ, ◌*◌, ◌<◌, ◌≤◌, List, [], length, All}
use Rattle.aa_bytes.specs.Bits.{has_bit}
use Rattle.aa_glob_nfa.specs.Fronts.{AreDistinct, is_in}

-- there is a bit for each number less than a bound, which is set for those in a list
pub record AreMarked (states : List ℕ) (room : ℕ) (members : List ℕ) : Type 0 where
  pub marked : (r : ℕ) → has_bit members r ≡ is_in r states
  pub bits : room ≤ 64 * length members

-- a list of states with a bit for each that is in it, or without bits
pub record IsFront (states : List ℕ) (room : ℕ) (members : List ℕ) : Type 0 where
  pub distinct : AreDistinct states
  pub below : All (λ r. r < room) states
  pub marked : (members ≡ []) ⊎ AreMarked states room members
