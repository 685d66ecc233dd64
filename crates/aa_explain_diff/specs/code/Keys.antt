-- Features as keys of a table.
use Rattle.std.specs.Prelude.{ℕ, Bool, List, [], ◌++◌, Option, None, Some}
use Rattle.std.specs.Hash as fed
use Rattle.std.specs.List.{list_any}
use Rattle.aa_profile_data.specs.declared.profile.Rule.{Rule}
use Rattle.aa_profile_data.specs.declared.profile.Rule.TheVariants.{Cap, File, Net, Other}
use Rattle.aa_explain_diff.specs.Features.{Feature, OfAttachment, OfAudit, OfFlag, OfHat, OfMode, OfRule, same_feature, seen_feature}
use Rattle.aa_explain_diff.specs.declared.features.Feature.{Feature as CodeFeature}

-- the text that tells most rules apart: the pattern of a file rule, or the text of a rule that decides nothing
abbrev pub text_of_rule : Rule → List ℕ
text_of_rule (File rule) = rule.pattern
text_of_rule (Cap rule) = []
text_of_rule (Net rule) = []
text_of_rule (Other rule) = rule.text

-- the bytes of a target, if there is one
abbrev pub target_bytes : Option (List ℕ) → List ℕ
target_bytes None = []
target_bytes (Some target) = target

-- the set of capabilities of a rule on capabilities
abbrev pub caps_of_rule : Rule → ℕ
caps_of_rule (File rule) = 0
caps_of_rule (Cap rule) = rule.caps
caps_of_rule (Net rule) = 0
caps_of_rule (Other rule) = 0

-- the target of a rule on links
abbrev pub link_of_rule : Rule → List ℕ
link_of_rule (File rule) = target_bytes rule.link
link_of_rule (Cap rule) = []
link_of_rule (Net rule) = []
link_of_rule (Other rule) = []

-- what is hashed of a feature: equal features have equal hashes
abbrev pub text_of : Feature → List ℕ
text_of (OfMode mode) = []
text_of OfHat = []
text_of OfAudit = []
text_of (OfFlag flag) = flag
text_of (OfAttachment pattern) = pattern
text_of (OfRule rule number) = text_of_rule rule

abbrev pub link_of : Feature → List ℕ
link_of (OfRule rule number) = link_of_rule rule
link_of _ = []

abbrev pub caps_of : Feature → ℕ
caps_of (OfRule rule number) = caps_of_rule rule
caps_of _ = 0

abbrev pub hashed : Feature → List (List ℕ)
hashed feature = fed.slice fed.u8 (text_of feature) ++ (fed.slice fed.u8 (link_of feature) ++ fed.u64 (caps_of feature))

-- two features of the code are the same
abbrev pub same_key : CodeFeature → CodeFeature → Bool
same_key one other = same_feature (seen_feature one) (seen_feature other)

-- a feature is among keys
abbrev pub is_among : List CodeFeature → Feature → Bool
is_among keys feature = list_any (λ one. same_feature feature (seen_feature one)) keys
