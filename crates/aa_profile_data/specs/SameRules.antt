-- Rules that are the same, equal in all their fields; and lists of the same rules.
use Rattle.std.specs.Prelude.{ℕ, Bool, true, false, not, ◌&&◌, ◌==◌, if◌then◌else◌, List, Option, None, Some}
use Rattle.std.specs.List.{Contains}
use Rattle.std.specs.Str.{bytes_eq}
use Rattle.aa_profile_data.specs.Conflicts.{same_target, same_transition}
use Rattle.aa_profile_data.specs.Ranks.{same_rank}
use Rattle.aa_profile_data.specs.declared.profile.CapRule.{CapRule}
use Rattle.aa_profile_data.specs.declared.profile.FileRule.{FileRule}
use Rattle.aa_profile_data.specs.declared.profile.NetRule.{NetRule}
use Rattle.aa_profile_data.specs.declared.profile.OtherRule.{OtherRule}
use Rattle.aa_profile_data.specs.declared.profile.Rule.{Rule}
use Rattle.aa_profile_data.specs.declared.profile.Rule.TheVariants.{Cap, File, Net, Other}
use Rattle.aa_profile_data.specs.declared.profile.Transition.{Transition}

-- two flags are equal
abbrev pub same_flag : Bool → Bool → Bool
same_flag one other = if one then other else not other

-- two numbers are equal, or neither is there
abbrev pub same_number : Option ℕ → Option ℕ → Bool
same_number None None = true
same_number (Some one) (Some other) = one == other
same_number None (Some other) = false
same_number (Some one) None = false

-- two rules have the same transition, or neither has one
abbrev pub same_exec : Option Transition → Option Transition → Bool
same_exec None None = true
same_exec (Some one) (Some other) = same_transition one other
same_exec None (Some other) = false
same_exec (Some one) None = false

abbrev pub same_file_rule : FileRule → FileRule → Bool
same_file_rule one other =
    bytes_eq one.pattern other.pattern && (one.access.0 == other.access.0) && same_exec one.exec other.exec && same_rank one.rank other.rank
    && same_target one.link other.link && same_flag one.owner other.owner && same_flag one.deny other.deny && same_flag one.audit other.audit

abbrev pub same_cap_rule : CapRule → CapRule → Bool
same_cap_rule one other = (one.caps == other.caps) && same_flag one.deny other.deny && same_flag one.audit other.audit

abbrev pub same_net_rule : NetRule → NetRule → Bool
same_net_rule one other =
    same_number one.domain other.domain && same_number one.kind other.kind && same_flag one.deny other.deny && same_flag one.audit other.audit

abbrev pub same_other_rule : OtherRule → OtherRule → Bool
same_other_rule one other =
    bytes_eq one.text other.text && same_flag one.owner other.owner && same_flag one.deny other.deny && same_flag one.audit other.audit

-- two rules are of one kind, and equal in all their fields
abbrev pub same_rule : Rule → Rule → Bool
same_rule (File one) (File other) = same_file_rule one other
same_rule (Cap one) (Cap other) = same_cap_rule one other
same_rule (Net one) (Net other) = same_net_rule one other
same_rule (Other one) (Other other) = same_other_rule one other
same_rule _ _ = false

-- two lists have the same rules, in whatever order and however often each occurs
abbrev pub HaveSameRules : List Rule → List Rule → Type 0
HaveSameRules rules others =
    ((rule : Rule) → Contains rules rule → Contains others rule) × ((rule : Rule) → Contains others rule → Contains rules rule)
