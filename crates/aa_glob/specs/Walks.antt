-- Where the walk of a pattern through the states of its beginnings is.
use Rattle.std.specs.Prelude.{ℕ, List}
use Rattle.aa_glob_syntax.specs.Elements.{Element}
use Rattle.aa_glob_syntax.specs.OpenGroups.{groups_behind, OpenGroup, sources_behind}

-- a group that is open: the state after its brace, and those before its commas, the last one first
abbrev pub OpenStates : Type 0
OpenStates = OpenGroup ℕ (List ℕ)

-- where a walk is: the state, and the groups that are open there, the innermost first
pub record Standing : Type 0 where
  pub state : ℕ
  pub groups : List OpenStates

abbrev pub standing_at : ℕ → List OpenStates → Standing
standing_at state groups = record { state = state; groups = groups }

-- the walk has followed an element to a state
abbrev pub entered : Element → ℕ → Standing → Standing
entered e to walk = standing_at to (groups_behind e walk.state to walk.groups)

-- the states from which an element is reached
abbrev pub source_states : Element → Standing → List ℕ
source_states e walk = sources_behind e walk.state walk.groups
