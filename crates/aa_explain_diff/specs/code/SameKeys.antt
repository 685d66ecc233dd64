-- Features are the same exactly where they are equal, but for the numbers of rules.
use Rattle.std.proofs.Common.{◌≡◌, true, Option, None, Some, ap, refl, sym, ◌∙◌}
use Rattle.std.proofs.lemmas.Slice.Eq.{bytes_eq-Decides}
use Rattle.std.specs.Bool.{Decides}
use Rattle.std.specs.Cmp.{IsEquivalence, both_ways, on_equiv}
use Rattle.std.specs.Prelude.{IsTrue}
use Rattle.aa_profile_data.proofs.SameLemmas.{equal-rule, rule-equal}
use Rattle.aa_profile_data.specs.declared.profile.Mode.{Mode}
use Rattle.aa_profile_data.specs.declared.profile.Mode.TheVariants.{Complain, Enforce, Unconfined}
use Rattle.aa_profile_data.specs.declared.profile.Rule.{Rule}
use Rattle.aa_explain_diff.specs.Features.{Feature, OfAttachment, OfAudit, OfFlag, OfHat, OfMode, OfRule, same_feature, same_mode, same_state, seen_feature}
use Rattle.aa_explain_diff.specs.code.Keys.{hashed, same_key}
use Rattle.aa_explain_diff.specs.declared.features.Feature.{Feature as CodeFeature}

-- a feature without its number
abbrev pub plain : Feature → Feature
plain (OfMode mode) = OfMode mode
plain OfHat = OfHat
plain OfAudit = OfAudit
plain (OfFlag flag) = OfFlag flag
plain (OfAttachment pattern) = OfAttachment pattern
plain (OfRule rule number) = OfRule rule 0

mode-equal : (one other : Mode) → same_mode one other ≡ true → one ≡ other
mode-equal Enforce Enforce same = refl
mode-equal Complain Complain same = refl
mode-equal Unconfined Unconfined same = refl
mode-equal Enforce Complain same = absurd (cc)
mode-equal Enforce Unconfined same = absurd (cc)
mode-equal Complain Enforce same = absurd (cc)
mode-equal Complain Unconfined same = absurd (cc)
mode-equal Unconfined Enforce same = absurd (cc)
mode-equal Unconfined Complain same = absurd (cc)

mode-same : (one : Mode) → same_mode one one ≡ true
mode-same Enforce = refl
mode-same Complain = refl
mode-same Unconfined = refl

pub state-equal : (one other : Option Mode) → same_state one other ≡ true → one ≡ other
state-equal (Some one) (Some other) same = ap (λ (mode : Mode). Some mode) (mode-equal one other same)
state-equal None None same = refl
state-equal (Some one) None same = absurd (cc)
state-equal None (Some other) same = absurd (cc)

state-same : (one : Option Mode) → same_state one one ≡ true
state-same (Some mode) = mode-same mode
state-same None = refl

pub same-plain : (one other : Feature) → same_feature one other ≡ true → plain one ≡ plain other
same-plain (OfMode one) (OfMode other) same = ap OfMode (state-equal one other same)
same-plain OfHat OfHat same = refl
same-plain OfAudit OfAudit same = refl
same-plain (OfFlag one) (OfFlag other) same = ap OfFlag ((bytes_eq-Decides one other).0 same)
same-plain (OfAttachment one) (OfAttachment other) same = ap OfAttachment ((bytes_eq-Decides one other).0 same)
same-plain (OfRule one m) (OfRule other n) same = ap (λ (rule : Rule). OfRule rule 0) (rule-equal one other same)
same-plain (OfMode one) OfHat same = absurd (cc)
same-plain (OfMode one) OfAudit same = absurd (cc)
same-plain (OfMode one) (OfFlag other) same = absurd (cc)
same-plain (OfMode one) (OfAttachment other) same = absurd (cc)
same-plain (OfMode one) (OfRule other n) same = absurd (cc)
same-plain OfHat (OfMode other) same = absurd (cc)
same-plain OfHat OfAudit same = absurd (cc)
same-plain OfHat (OfFlag other) same = absurd (cc)
same-plain OfHat (OfAttachment other) same = absurd (cc)
same-plain OfHat (OfRule other n) same = absurd (cc)
same-plain OfAudit (OfMode other) same = absurd (cc)
same-plain OfAudit OfHat same = absurd (cc)
same-plain OfAudit (OfFlag other) same = absurd (cc)
same-plain OfAudit (OfAttachment other) same = absurd (cc)
same-plain OfAudit (OfRule other n) same = absurd (cc)
same-plain (OfFlag one) (OfMode other) same = absurd (cc)
same-plain (OfFlag one) OfHat same = absurd (cc)
same-plain (OfFlag one) OfAudit same = absurd (cc)
same-plain (OfFlag one) (OfAttachment other) same = absurd (cc)
same-plain (OfFlag one) (OfRule other n) same = absurd (cc)
same-plain (OfAttachment one) (OfMode other) same = absurd (cc)
same-plain (OfAttachment one) OfHat same = absurd (cc)
same-plain (OfAttachment one) OfAudit same = absurd (cc)
same-plain (OfAttachment one) (OfFlag other) same = absurd (cc)
same-plain (OfAttachment one) (OfRule other n) same = absurd (cc)
same-plain (OfRule one m) (OfMode other) same = absurd (cc)
same-plain (OfRule one m) OfHat same = absurd (cc)
same-plain (OfRule one m) OfAudit same = absurd (cc)
same-plain (OfRule one m) (OfFlag other) same = absurd (cc)
same-plain (OfRule one m) (OfAttachment other) same = absurd (cc)

-- features that are equal but for their numbers are the same
pub plain-same : (one other : Feature) → plain one ≡ plain other → same_feature one other ≡ true
plain-same (OfMode one) (OfMode other) equal =
    let same : one ≡ other = cc in
    ap (same_state one) (sym same) ∙ state-same one
plain-same OfHat OfHat equal = refl
plain-same OfAudit OfAudit equal = refl
plain-same (OfFlag one) (OfFlag other) equal = (bytes_eq-Decides one other).1 (cc)
plain-same (OfAttachment one) (OfAttachment other) equal = (bytes_eq-Decides one other).1 (cc)
plain-same (OfRule one m) (OfRule other n) equal = equal-rule one other (cc)
plain-same (OfMode one) OfHat equal = absurd (cc)
plain-same (OfMode one) OfAudit equal = absurd (cc)
plain-same (OfMode one) (OfFlag other) equal = absurd (cc)
plain-same (OfMode one) (OfAttachment other) equal = absurd (cc)
plain-same (OfMode one) (OfRule other n) equal = absurd (cc)
plain-same OfHat (OfMode other) equal = absurd (cc)
plain-same OfHat OfAudit equal = absurd (cc)
plain-same OfHat (OfFlag other) equal = absurd (cc)
plain-same OfHat (OfAttachment other) equal = absurd (cc)
plain-same OfHat (OfRule other n) equal = absurd (cc)
plain-same OfAudit (OfMode other) equal = absurd (cc)
plain-same OfAudit OfHat equal = absurd (cc)
plain-same OfAudit (OfFlag other) equal = absurd (cc)
plain-same OfAudit (OfAttachment other) equal = absurd (cc)
plain-same OfAudit (OfRule other n) equal = absurd (cc)
plain-same (OfFlag one) (OfMode other) equal = absurd (cc)
plain-same (OfFlag one) OfHat equal = absurd (cc)
plain-same (OfFlag one) OfAudit equal = absurd (cc)
plain-same (OfFlag one) (OfAttachment other) equal = absurd (cc)
plain-same (OfFlag one) (OfRule other n) equal = absurd (cc)
plain-same (OfAttachment one) (OfMode other) equal = absurd (cc)
plain-same (OfAttachment one) OfHat equal = absurd (cc)
plain-same (OfAttachment one) OfAudit equal = absurd (cc)
plain-same (OfAttachment one) (OfFlag other) equal = absurd (cc)
plain-same (OfAttachment one) (OfRule other n) equal = absurd (cc)
plain-same (OfRule one m) (OfMode other) equal = absurd (cc)
plain-same (OfRule one m) OfHat equal = absurd (cc)
plain-same (OfRule one m) OfAudit equal = absurd (cc)
plain-same (OfRule one m) (OfFlag other) equal = absurd (cc)
plain-same (OfRule one m) (OfAttachment other) equal = absurd (cc)

same-decides : (one other : Feature) → Decides (same_feature one other) (plain one ≡ plain other)
same-decides one other = (same-plain one other, plain-same one other)

same-refl : (one : Feature) → same_feature one one ≡ true
same-refl one = plain-same one one refl

-- to be the same is an equivalence
pub feature-equiv : IsEquivalence same_feature
feature-equiv = record {
  refl = same-refl;
  symm = λ one other. both_ways (same_feature one other) (same_feature other one)
      (λ same. plain-same other one (sym (same-plain one other same)))
      (λ same. plain-same one other (sym (same-plain other one same)));
  congr = λ one other third same. both_ways (same_feature one third) (same_feature other third)
      (λ there. plain-same other third (sym (same-plain one other same) ∙ same-plain one third there))
      (λ there. plain-same one third (same-plain one other same ∙ same-plain other third there));
}

pub same-equiv : IsEquivalence same_key
same-equiv = on_equiv seen_feature feature-equiv

-- the number of a rule isn't hashed
hashed-plain : (one : Feature) → hashed one ≡ hashed (plain one)
hashed-plain (OfMode mode) = refl
hashed-plain OfHat = refl
hashed-plain OfAudit = refl
hashed-plain (OfFlag flag) = refl
hashed-plain (OfAttachment pattern) = refl
hashed-plain (OfRule rule number) = refl

pub same-hashed : (one other : CodeFeature) → IsTrue (same_key one other) → hashed (seen_feature one) ≡ hashed (seen_feature other)
same-hashed one other same =
    let equal = same-plain (seen_feature one) (seen_feature other) same in
    hashed-plain (seen_feature one) ∙ ap hashed equal ∙ sym (hashed-plain (seen_feature other))
