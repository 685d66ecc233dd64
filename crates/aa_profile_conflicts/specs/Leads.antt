-- Leads of one rank, and the places of their rules.
use Rattle.std.specs.Prelude.{ℕ, ◌+◌, List, [], ◌∷◌, Option, None, Some, if◌then◌else◌, map}
use Rattle.std.specs.List.{filter_map}
use Rattle.aa_profile_conflicts.specs.declared.lead.Lead.{Lead as CodeLead}
use Rattle.aa_profile_data.specs.Conflicts.{Lead, lead_of}
use Rattle.aa_profile_data.specs.Ranks.{same_rank}
use Rattle.aa_profile_data.specs.declared.profile.Rank.{Rank}
use Rattle.aa_profile_data.specs.declared.profile.Rule.{Rule}

-- a lead of the code
abbrev pub seen_lead : CodeLead → Lead
seen_lead lead = record { pattern = lead.pattern.now; rank = lead.rank; transition = lead.transition.now }

-- the lead of a rule, if it has one with this rank
abbrev pub lead_by : Rank → Rule → Option Lead
lead_by rank rule = elim (lead_of rule) [ None ↦ None | Some lead ↦ if same_rank lead.rank rank then Some lead else None ]

-- the leads of some rules with this rank, in their order
abbrev pub leads : Rank → List Rule → List Lead
leads rank rules = filter_map (lead_by rank) rules

-- the patterns of these leads
abbrev pub patterns_by : Rank → List Rule → List (List ℕ)
patterns_by rank rules = map (λ lead. lead.pattern) (leads rank rules)

-- A lead, and the place of its rule among others.
pub record Placed : Type 0 where
  pub place : ℕ
  pub lead : Lead

-- the leads of some rules with this rank, each with its place, of which the first rule has this one
abbrev pub placed_from : Rank → ℕ → List Rule → List Placed
placed_from rank first [] = []
placed_from rank first (rule ∷ rules) =
    elim (lead_by rank rule) [ None ↦ placed_from rank (first + 1) rules | Some lead ↦ record { place = first; lead = lead } ∷ placed_from rank (first + 1) rules ]

-- the place of a lead
abbrev pub place_of : Placed → ℕ
place_of placed = placed.place
