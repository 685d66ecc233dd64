-- Loaded profiles with their states.
use Rattle.std.specs.Prelude.{Bool, true, false, ◌&&◌, if◌then◌else◌, ◌+◌, ◌==◌, length}
use Rattle.aa_profile_data.specs.declared.profile.Profile.{Profile}
use Rattle.aa_decide_ready.specs.declared.entry.State.{State}
use Rattle.aa_decide_ready.specs.declared.entry.State.TheVariants.{Disabled, Modes}

-- a loaded profile with its state
pub record Loaded : Type 0 where
  pub profile : Profile
  pub state : State

-- a state fits a profile: it has a mode for the profile, and one for each of its children and hats
abbrev pub fits : Profile → State → Bool
fits profile Disabled = true
fits profile (Modes modes) = length modes == length profile.children + 1

-- the profile is in force in this state
abbrev pub is_in_force : State → Bool
is_in_force Disabled = false
is_in_force (Modes modes) = true

-- an entry can be in another state: the new state fits its profile, and so does its own
abbrev pub can_be_in : State → Loaded → Bool
can_be_in state entry = fits entry.profile entry.state && fits entry.profile state

-- an entry in another state, if it can be in it
abbrev pub with_state : State → Loaded → Loaded
with_state state entry = if can_be_in state entry then record entry { state = state } else entry

-- the state that an entry gives up for another one, if it can be in that; else the other one
abbrev pub state_left : State → Loaded → State
state_left state entry = if can_be_in state entry then entry.state else state
