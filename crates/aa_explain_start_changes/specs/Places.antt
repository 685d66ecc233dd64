-- Places where programs run that are started, by name: in two policy sets the slots of one name differ.
use Rattle.std.specs.Prelude.{ℕ, Bool, List, Option, None, Some, slice_get, option_and_then}
use Rattle.std.specs.Option.{option_map}
use Rattle.aa_decide.specs.Exec.{Base, ExecAnswer, Nowhere, Null, OnProfile, OnUnconfined, Stacked, Started, Unconfined, Under}
use Rattle.aa_profile_data.specs.FullNames.{FullName}
use Rattle.aa_profile_data.specs.declared.profile.Child.{Child}
use Rattle.aa_profile_data.specs.declared.profile.Profile.{Profile}

-- the name of the child or hat at a place, if there is one
abbrev pub child_name : List Child → ℕ → Option (List ℕ)
child_name children place = option_map (λ (child : Child). child.name) (slice_get children place)

-- the full name of a profile, or of its child or hat at a place
abbrev pub name_at : Profile → Option ℕ → FullName
name_at profile place = record { profile = profile.name; child = option_and_then (child_name profile.children) place }

-- what a stack is on, by name: a profile, child or hat; or no profile
pub data NamedBase : Type 0 where
  OnNamed : FullName → NamedBase
  OnNone : NamedBase

abbrev pub base_name : Base → NamedBase
base_name (OnProfile entry child) = OnNamed (name_at entry.profile child)
base_name OnUnconfined = OnNone

-- Where a program runs that is started, by name: under a profile, child or hat; under no profile; under a stack of these
-- full names on something, if it is on something; or it is let through in complain mode alone.
pub data Place : Type 0 where
  Named : FullName → Place
  NoProfile : Place
  StackOf : Option NamedBase → List (List ℕ) → Place
  LetThrough : Place

-- none where it isn't started
abbrev pub place_of : Started → Option Place
place_of (Under entry child) = Some (Named (name_at entry.profile child))
place_of Unconfined = Some NoProfile
place_of (Stacked base members) = Some (StackOf (option_map base_name base) members)
place_of Null = Some LetThrough
place_of Nowhere = None

-- where a program runs, and whether its environment is scrubbed
pub record Lead : Type 0 where
  pub place : Place
  pub scrub : Bool

-- what the start of a program leads to, by what is answered; none where it isn't started
abbrev pub lead_by : ExecAnswer → Option Lead
lead_by answer = option_map (λ place. record { place = place; scrub = answer.scrub }) (place_of answer.to)
