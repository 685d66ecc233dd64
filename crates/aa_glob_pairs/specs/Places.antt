-- Places among the second states of a first one.
use Rattle.std.specs.Prelude.{◌≡◌, ℕ, ◌+◌, ◌≤◌, List, length, take, Option, Some, MatchOption, slice_get}
use Rattle.aa_glob_pairs.specs.code.Encoding.{encoded, last_of}
use Rattle.aa_glob_pairs.specs.declared.place.Place.{Place}

-- A place after so many states of a list: where their bytes end, with the last one of them.
pub record StandsAt (place : Place) (states : List ℕ) : Type 0 where
  pub within : place.index ≤ length states
  pub offset : place.offset ≡ length (encoded 0 (take place.index states))
  pub state : place.state ≡ last_of 0 (take place.index states)

-- a place is one state further in a list than another, and has this state
pub record IsBehind (next place : Place) (states : List ℕ) : Type 0 where
  pub index : next.index ≡ place.index + 1
  pub state : slice_get states place.index ≡ Some next.state
  pub stands : StandsAt next states

-- the place after the next state is found, if there is one
abbrev pub IsNext : Option Place → Place → List ℕ → Type 0
IsNext found place states = MatchOption found (length states ≤ place.index) (λ next. IsBehind next place states)
