-- What has a full name in a policy set: the profile of its first part, or the child or hat of its second.
use Rattle.std.specs.Prelude.{◌≡◌, ℕ, List, Option, None, Some, slice_get}
use Rattle.std.specs.List.{Contains}
use Rattle.aa_decide.specs.Exec.{Asker}
use Rattle.aa_decide_ready.specs.Entries.{Loaded}
use Rattle.aa_profile_data.specs.FullNames.{FullName}
use Rattle.aa_profile_data.specs.declared.profile.Child.{Child}
use Rattle.aa_profile_data.specs.declared.profile.Profile.{Profile}

-- a profile has a child or a hat of a name at an index; or it is the profile itself, where no child is named
abbrev pub IsChildNamed : Profile → Option ℕ → Option (List ℕ) → Type 0
IsChildNamed profile None None = Unit {0}
IsChildNamed profile (Some place) (Some name) = (child : Child) × (slice_get profile.children place ≡ Some child) × (child.name ≡ name)
IsChildNamed profile None (Some name) = ⊥
IsChildNamed profile (Some place) None = ⊥

-- one of some entries has the full name's profile, and its child or hat, if one is named, is at the index
pub record IsNamed (entries : List Loaded) (name : FullName) (who : Asker) : Type 0 where
  pub there : Contains entries who.entry
  pub profile : who.entry.profile.name ≡ name.profile
  pub child : IsChildNamed who.entry.profile who.child name.child
