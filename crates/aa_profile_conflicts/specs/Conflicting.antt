-- Rules that conflict with an earlier one, by their places.
use Rattle.std.specs.Prelude.{◌≡◌, ℕ, ◌<◌, true, false, List, Option, None, Some, slice_get, min}
use Rattle.aa_glob_pattern.specs.Shared.{overlaps}
use Rattle.aa_profile_conflicts.specs.Leads.{lead_by}
use Rattle.aa_profile_data.specs.Conflicts.{Lead, same_transition}
use Rattle.aa_profile_data.specs.declared.profile.Rank.{Rank}
use Rattle.aa_profile_data.specs.declared.profile.Rule.{Rule}

-- Two rules lead to different profiles with one rank, and some path matches both.
pub record ConflictBy (rank : Rank) (one other : Rule) : Type 0 where
  pub here : Lead
  pub there : Lead
  pub leads_here : lead_by rank one ≡ Some here
  pub leads_there : lead_by rank other ≡ Some there
  pub differ : same_transition here.transition there.transition ≡ false
  pub overlap : overlaps here.pattern there.pattern ≡ true

-- The rule at a place conflicts with an earlier one with this rank.
pub record ConflictsAt (rank : Rank) (rules : List Rule) (place : ℕ) : Type 0 where
  pub before : ℕ
  pub earlier : before < place
  pub one : Rule
  pub one_there : slice_get rules before ≡ Some one
  pub other : Rule
  pub other_there : slice_get rules place ≡ Some other
  pub conflict : ConflictBy rank other one

-- the lesser of two places, where there are any
abbrev pub lesser : Option ℕ → Option ℕ → Option ℕ
lesser None other = other
lesser (Some one) None = Some one
lesser (Some one) (Some other) = Some (min one other)
