-- Rules in the way of the rule that a request lacks (docs/policy.md, "Rules that conflict"): a profile that had both would be refused.
use Rattle.std.specs.Prelude.{ℕ, Bool, false, not, ◌&&◌, List, None, Some}
use Rattle.aa_glob_syntax.specs.Matching.{matches}
use Rattle.aa_glob_syntax.specs.Reading.{items_of}
use Rattle.aa_profile_data.specs.Access.{EXEC, has}
use Rattle.aa_profile_data.specs.Request.{ForFile, Request}
use Rattle.aa_profile_data.specs.Conflicts.{lead_of, same_transition}
use Rattle.aa_profile_data.specs.Ranks.{same_rank}
use Rattle.aa_profile_data.specs.declared.profile.Rank.TheVariants.{Plain}
use Rattle.aa_profile_data.specs.declared.profile.Rule.{Rule}
use Rattle.aa_explain_rules.specs.Missing.{inherit, lacked}
use Rattle.aa_explain_rules.specs.Told.{places_where}

-- a rule leads the program of a path, with the rank of a plain pattern, to another profile than the one that starts it
abbrev pub leads_elsewhere : List ℕ → Rule → Bool
leads_elsewhere path rule = elim (lead_of rule) [
  | None ↦ false
  | Some lead ↦ same_rank lead.rank Plain && (not (same_transition lead.transition inherit) && matches (items_of lead.pattern) path)
]

-- it is in the way of a rule that allows some needs of a request: of one with an exec word, on the path where that rule leads elsewhere
abbrev pub is_in_the_way : Request → ℕ → Rule → Bool
is_in_the_way (ForFile letters owned path) needs rule = has needs EXEC && leads_elsewhere path rule
is_in_the_way _ _ _ = false

-- the indexes of the rules in the way of the rule that a request lacks
abbrev pub in_the_way : Request → List Rule → List ℕ
in_the_way request rules = places_where (is_in_the_way request (lacked request rules)) 0 rules
