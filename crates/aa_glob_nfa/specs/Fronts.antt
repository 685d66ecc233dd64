-- Lists of the states that are live at one place of a text.
use Rattle.std.specs.Prelude.{◌≡◌, ℕ, ◌<◌, Bool, false, ◌==◌, if◌then◌else◌, List, [], ◌∷◌, ◌++◌, All}
use Rattle.std.specs.List.{list_any}

-- states in the order in which they were found, all of them less than a bound
pub record Live : Type 0 where
  pub states : List ℕ
  pub room : ℕ

-- a number is in a list
abbrev pub is_in : ℕ → List ℕ → Bool
is_in r rs = list_any (λ other. r == other) rs

-- the live states with this one
abbrev pub with_state : ℕ → Live → Live
with_state r live = if is_in r live.states then live else record live { states = live.states ++ r ∷ [] }

-- no number occurs twice
abbrev pub AreDistinct : List ℕ → Type 0
AreDistinct [] = Unit {0}
AreDistinct (r ∷ rs) = (is_in r rs ≡ false) × AreDistinct rs

-- a list of states that are live at a place: none occurs twice, and all are states
abbrev pub IsLive : ℕ → List ℕ → Type 0
IsLive room states = AreDistinct states × All (λ r. r < room) states
