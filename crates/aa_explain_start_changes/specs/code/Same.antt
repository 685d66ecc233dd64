-- Places compared, by name.
use Rattle.std.specs.Prelude.{ℕ, Bool, true, false, ◌&&◌, List, [], ◌∷◌, Option, None, Some}
use Rattle.std.specs.Str.{bytes_eq}
use Rattle.aa_explain_start_changes.specs.Places.{Lead, LetThrough, Named, NamedBase, NoProfile, OnNamed, OnNone, Place, StackOf}
use Rattle.aa_explain_start_changes.specs.StartChanges.{Leads}
use Rattle.aa_profile_data.specs.FullNames.{FullName}
use Rattle.aa_profile_data.specs.SameRules.{same_flag}

-- the same name of a child or hat, or none
abbrev pub same_child : Option (List ℕ) → Option (List ℕ) → Bool
same_child None None = true
same_child (Some name) (Some own) = bytes_eq name own
same_child None (Some own) = false
same_child (Some name) None = false

abbrev pub same_name : FullName → FullName → Bool
same_name one other = bytes_eq one.profile other.profile && same_child one.child other.child

-- stacks are on the same
abbrev pub same_base : NamedBase → NamedBase → Bool
same_base (OnNamed name) (OnNamed own) = same_name name own
same_base OnNone OnNone = true
same_base (OnNamed name) OnNone = false
same_base OnNone (OnNamed own) = false

-- or neither is on anything
abbrev pub same_stand : Option NamedBase → Option NamedBase → Bool
same_stand None None = true
same_stand (Some base) (Some own) = same_base base own
same_stand None (Some own) = false
same_stand (Some base) None = false

-- the same full names, in the same order
abbrev pub same_members : List (List ℕ) → List (List ℕ) → Bool
same_members [] [] = true
same_members (name ∷ names) (own ∷ others) = bytes_eq name own && same_members names others
same_members [] (own ∷ others) = false
same_members (name ∷ names) [] = false

abbrev pub same_place : Place → Place → Bool
same_place (Named name) (Named own) = same_name name own
same_place NoProfile NoProfile = true
same_place (StackOf base members) (StackOf own names) = same_stand base own && same_members members names
same_place LetThrough LetThrough = true
same_place _ _ = false

-- the same place, alike scrubbed
abbrev pub same_lead : Lead → Lead → Bool
same_lead one other = same_place one.place other.place && same_flag one.scrub other.scrub

-- or neither is started
abbrev pub same_leads : Option Lead → Option Lead → Bool
same_leads None None = true
same_leads (Some lead) (Some own) = same_lead lead own
same_leads None (Some own) = false
same_leads (Some lead) None = false

-- the same before a change, and the same behind it
abbrev pub same_pair : Leads → Leads → Bool
same_pair one other = same_leads one.before other.before && same_leads one.after other.after
