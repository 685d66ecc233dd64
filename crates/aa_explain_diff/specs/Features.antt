-- What a section has, one by one, and what another section lacks of it.
use Rattle.std.specs.Prelude.{ℕ, ◌+◌, Bool, true, false, not, ◌&&◌, if◌then◌else◌, List, [], ◌∷◌, ◌++◌, map, filter, Option, None, Some}
use Rattle.std.specs.List.{list_any}
use Rattle.std.specs.Str.{bytes_eq}
use Rattle.aa_bytes.specs.Texts.{is_empty}
use Rattle.aa_profile_data.specs.SameRules.{same_rule}
use Rattle.aa_profile_data.specs.declared.profile.Mode.{Mode}
use Rattle.aa_profile_data.specs.declared.profile.Mode.TheVariants.{Complain, Enforce, Unconfined}
use Rattle.aa_profile_data.specs.declared.profile.Rule.{Rule}
use Rattle.aa_explain_diff.specs.Sections.{Section}
use Rattle.aa_explain_diff.specs.declared.features.Feature.{Feature as CodeFeature}
use Rattle.aa_explain_diff.specs.declared.features.Feature.TheVariants as code

-- One thing that a section has: the mode that it is in, or that it is disabled; that it is a hat; that it is audited; a flag that decides nothing; a
-- pattern by which it attaches; or a rule, by its number among the rules.
pub data Feature : Type 0 where
  OfMode : Option Mode → Feature
  OfHat : Feature
  OfAudit : Feature
  OfFlag : (flag : List ℕ) → Feature
  OfAttachment : (pattern : List ℕ) → Feature
  OfRule : (rule : Rule) (number : ℕ) → Feature

-- a feature of the code
abbrev pub seen_feature : CodeFeature → Feature
seen_feature (code.Mode mode) = OfMode mode
seen_feature code.Hat = OfHat
seen_feature code.Audit = OfAudit
seen_feature (code.Flag flag) = OfFlag flag.now
seen_feature (code.Attachment pattern) = OfAttachment pattern.now
seen_feature (code.Rule rule number) = OfRule rule.now number

-- a feature, if something holds
abbrev pub feature_if : Bool → Feature → List Feature
feature_if holds feature = if holds then feature ∷ [] else []

-- rules by their numbers, of which the first has this one
abbrev pub rules_from : ℕ → List Rule → List Feature
rules_from number [] = []
rules_from number (rule ∷ rules) = OfRule rule number ∷ rules_from (number + 1) rules

-- all that a section has, in the order of the file: its head first, and then its rules
abbrev pub features_of : Section → List Feature
features_of section =
    OfMode section.mode ∷ [] ++ feature_if section.hat OfHat ++ feature_if section.audit OfAudit
    ++ map OfFlag section.flags ++ map OfAttachment section.attachments ++ rules_from 0 section.rules

abbrev pub same_mode : Mode → Mode → Bool
same_mode Enforce Enforce = true
same_mode Complain Complain = true
same_mode Unconfined Unconfined = true
same_mode _ _ = false

-- two sections are in the same mode, or both disabled
abbrev pub same_state : Option Mode → Option Mode → Bool
same_state (Some one) (Some other) = same_mode one other
same_state None None = true
same_state _ _ = false

-- two sections have the same thing, wherever a rule is among the other rules
abbrev pub same_feature : Feature → Feature → Bool
same_feature (OfMode one) (OfMode other) = same_state one other
same_feature OfHat OfHat = true
same_feature OfAudit OfAudit = true
same_feature (OfFlag one) (OfFlag other) = bytes_eq one other
same_feature (OfAttachment one) (OfAttachment other) = bytes_eq one other
same_feature (OfRule one number) (OfRule other place) = same_rule one other
same_feature _ _ = false

-- a feature is among some
abbrev pub has_feature : List Feature → Feature → Bool
has_feature features feature = list_any (same_feature feature) features

-- those of some features that others lack
abbrev pub lacking : List Feature → List Feature → List Feature
lacking others features = filter (λ feature. not (has_feature others feature)) features

-- neither of two sections has something that the other lacks
abbrev pub are_alike : Section → Section → Bool
are_alike one other =
    is_empty (lacking (features_of other) (features_of one)) && is_empty (lacking (features_of one) (features_of other))
