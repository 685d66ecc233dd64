-- The rules on files that only one side has.
use Rattle.std.specs.Prelude.{ℕ, Bool, not, if◌then◌else◌, List, [], ◌∷◌, ◌++◌, map}
use Rattle.aa_explain_diff.specs.Features.{Feature, OfAttachment, OfAudit, OfFlag, OfHat, OfMode, OfRule, lacking, rules_from}
use Rattle.aa_profile_data.specs.SameRules.{same_flag}
use Rattle.aa_profile_data.specs.declared.profile.FileRule.{FileRule}
use Rattle.aa_profile_data.specs.declared.profile.Rule.{Rule}
use Rattle.aa_profile_data.specs.declared.profile.Rule.TheVariants.{Cap, File, Net, Other}
use Rattle.aa_explain_changes.specs.Sides.{Sides}
use Rattle.aa_explain_changes.specs.declared.lone.LoneRule.{LoneRule as CodeLoneRule}

-- a rule on files, and its number among the rules of its side
pub record LoneRule : Type 0 where
  pub rule : FileRule
  pub number : ℕ

abbrev pub seen_lone : CodeLoneRule → LoneRule
seen_lone lone = record { rule = lone.rule.now; number = lone.number }

abbrev pub file_at : Rule → ℕ → List LoneRule → List LoneRule
file_at (File rule) number more = record { rule = rule; number = number } ∷ more
file_at (Cap rule) number more = more
file_at (Net rule) number more = more
file_at (Other rule) number more = more

-- the rules on files among features
abbrev pub files_among : List Feature → List LoneRule
files_among [] = []
files_among (OfMode mode ∷ more) = files_among more
files_among (OfHat ∷ more) = files_among more
files_among (OfAudit ∷ more) = files_among more
files_among (OfFlag flag ∷ more) = files_among more
files_among (OfAttachment pattern ∷ more) = files_among more
files_among (OfRule rule number ∷ more) = file_at rule number (files_among more)

-- those of some rules that other rules lack; or all, where each of them is to count
abbrev pub lone_features : Bool → List Rule → List Rule → List Feature
lone_features all others rules = if all then rules_from 0 rules else lacking (rules_from 0 others) (rules_from 0 rules)

abbrev pub lone_rules : Bool → List Rule → List Rule → List LoneRule
lone_rules all others rules = files_among (lone_features all others rules)

-- each rule of either side counts, where the rules of only one side are audited
abbrev pub all_count : Sides → Bool
all_count sides = not (same_flag sides.old.audit sides.new.audit)

-- the rules on files of the old side that the new one lacks, and of the new side that the old one lacks
abbrev pub old_lone : Sides → List LoneRule
old_lone sides = lone_rules (all_count sides) sides.new.rules sides.old.rules

abbrev pub new_lone : Sides → List LoneRule
new_lone sides = lone_rules (all_count sides) sides.old.rules sides.new.rules

abbrev pub patterns_of : List LoneRule → List (List ℕ)
patterns_of lone = map (λ (l : LoneRule). l.rule.pattern) lone

-- the patterns of the rules that only one side has
abbrev pub lone_patterns : Sides → List (List ℕ)
lone_patterns sides = patterns_of (old_lone sides) ++ patterns_of (new_lone sides)
