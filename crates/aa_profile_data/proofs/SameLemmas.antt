-- Rules are the same exactly where they are equal.
use Rattle.std.proofs.Common.{◌≡◌, ℕ, Bool, true, false, ◌&&◌, ◌==◌, List, Option, None, Some, ap, refl, subst}
use Rattle.std.proofs.lemmas.Bool.{eq-eqb, eqb-true}
use Rattle.std.proofs.lemmas.Slice.Eq.{bytes_eq-Decides}
use Rattle.std.specs.Str.{bytes_eq}
use Rattle.aa_profile_data.proofs.RankLemmas.{rank-self, same-ranks}
use Rattle.aa_profile_data.proofs.TransitionLemmas.{and-first, and-second, same-equal, same-refl, target-equal, target-same}
use Rattle.aa_profile_data.specs.Conflicts.{same_target}
use Rattle.aa_profile_data.specs.SameRules.{same_cap_rule, same_exec, same_file_rule, same_flag, same_net_rule, same_number, same_other_rule, same_rule}
use Rattle.aa_profile_data.specs.Ranks.{same_rank}
use Rattle.aa_profile_data.specs.declared.profile.CapRule.{CapRule}
use Rattle.aa_profile_data.specs.declared.profile.FileRule.{FileRule}
use Rattle.aa_profile_data.specs.declared.profile.NetRule.{NetRule}
use Rattle.aa_profile_data.specs.declared.profile.OtherRule.{OtherRule}
use Rattle.aa_profile_data.specs.declared.profile.Rule.{Rule}
use Rattle.aa_profile_data.specs.declared.profile.Rule.TheVariants.{Cap, File, Net, Other}
use Rattle.aa_profile_data.specs.declared.profile.Transition.{Transition}

flag-equal : (one other : Bool) → same_flag one other ≡ true → one ≡ other
flag-equal true true same = refl
flag-equal true false same = absurd (cc)
flag-equal false true same = absurd (cc)
flag-equal false false same = refl

flag-same : (one : Bool) → same_flag one one ≡ true
flag-same true = refl
flag-same false = refl

number-equal : (one other : Option ℕ) → same_number one other ≡ true → one ≡ other
number-equal None None same = refl
number-equal None (Some other) same = absurd (cc)
number-equal (Some one) None same = absurd (cc)
number-equal (Some one) (Some other) same = ap Some (eqb-true one other same)

number-same : (one : Option ℕ) → same_number one one ≡ true
number-same None = refl
number-same (Some one) = eq-eqb one one refl

exec-equal : (one other : Option Transition) → same_exec one other ≡ true → one ≡ other
exec-equal None None same = refl
exec-equal None (Some other) same = absurd (cc)
exec-equal (Some one) None same = absurd (cc)
exec-equal (Some one) (Some other) same = ap Some (same-equal one other same)

exec-same : (one : Option Transition) → same_exec one one ≡ true
exec-same None = refl
exec-same (Some one) = same-refl one

bytes-equal : (one other : List ℕ) → bytes_eq one other ≡ true → one ≡ other
bytes-equal one other = (bytes_eq-Decides one other).0

bytes-same : (one : List ℕ) → bytes_eq one one ≡ true
bytes-same one = (bytes_eq-Decides one one).1 refl

-- both halves hold where both together do
halves : (a b : Bool) → (a && b) ≡ true → (a ≡ true) × (b ≡ true)
halves a b both = (and-first a b both, and-second a b both)

file-equal : (one other : FileRule) → same_file_rule one other ≡ true → one ≡ other
file-equal one other same =
    let h7 = halves (bytes_eq one.pattern other.pattern && (one.access.0 == other.access.0) && same_exec one.exec other.exec && same_rank one.rank other.rank
    && same_target one.link other.link && same_flag one.owner other.owner && same_flag one.deny other.deny) (same_flag one.audit other.audit) same in
    let h6 = halves (bytes_eq one.pattern other.pattern && (one.access.0 == other.access.0) && same_exec one.exec other.exec && same_rank one.rank other.rank
    && same_target one.link other.link && same_flag one.owner other.owner) (same_flag one.deny other.deny) h7.0 in
    let h5 = halves (bytes_eq one.pattern other.pattern && (one.access.0 == other.access.0) && same_exec one.exec other.exec && same_rank one.rank other.rank
    && same_target one.link other.link) (same_flag one.owner other.owner) h6.0 in
    let h4 = halves (bytes_eq one.pattern other.pattern && (one.access.0 == other.access.0) && same_exec one.exec other.exec && same_rank one.rank other.rank)
    (same_target one.link other.link) h5.0 in
    let h3 = halves (bytes_eq one.pattern other.pattern && (one.access.0 == other.access.0) && same_exec one.exec other.exec) (same_rank one.rank other.rank) h4.0 in
    let h2 = halves (bytes_eq one.pattern other.pattern && (one.access.0 == other.access.0)) (same_exec one.exec other.exec) h3.0 in
    let h1 = halves (bytes_eq one.pattern other.pattern) (one.access.0 == other.access.0) h2.0 in
    let pattern = bytes-equal one.pattern other.pattern h1.0 in
    let access = eqb-true one.access.0 other.access.0 h1.1 in
    let exec = exec-equal one.exec other.exec h2.1 in
    let rank = same-ranks one.rank other.rank h3.1 in
    let link = target-equal one.link other.link h4.1 in
    let owner = flag-equal one.owner other.owner h5.1 in
    let deny = flag-equal one.deny other.deny h6.1 in
    let audit = flag-equal one.audit other.audit h7.1 in
    λ i. record {
      pattern = pattern i;
      access = record { 0 = access i };
      exec = exec i;
      rank = rank i;
      link = link i;
      owner = owner i;
      deny = deny i;
      audit = audit i;
    }

file-same : (one : FileRule) → same_file_rule one one ≡ true
file-same one =
    λ i. bytes-same one.pattern i && eq-eqb one.access.0 one.access.0 refl i && exec-same one.exec i && rank-self one.rank i && target-same one.link i
    && flag-same one.owner i && flag-same one.deny i && flag-same one.audit i

cap-equal : (one other : CapRule) → same_cap_rule one other ≡ true → one ≡ other
cap-equal one other same =
    let h2 = halves ((one.caps == other.caps) && same_flag one.deny other.deny) (same_flag one.audit other.audit) same in
    let h1 = halves (one.caps == other.caps) (same_flag one.deny other.deny) h2.0 in
    let caps = eqb-true one.caps other.caps h1.0 in
    let deny = flag-equal one.deny other.deny h1.1 in
    let audit = flag-equal one.audit other.audit h2.1 in
    λ i. record { caps = caps i; deny = deny i; audit = audit i }

cap-same : (one : CapRule) → same_cap_rule one one ≡ true
cap-same one = λ i. eq-eqb one.caps one.caps refl i && flag-same one.deny i && flag-same one.audit i

net-equal : (one other : NetRule) → same_net_rule one other ≡ true → one ≡ other
net-equal one other same =
    let h3 = halves (same_number one.domain other.domain && same_number one.kind other.kind && same_flag one.deny other.deny) (same_flag one.audit other.audit) same in
    let h2 = halves (same_number one.domain other.domain && same_number one.kind other.kind) (same_flag one.deny other.deny) h3.0 in
    let h1 = halves (same_number one.domain other.domain) (same_number one.kind other.kind) h2.0 in
    let domain = number-equal one.domain other.domain h1.0 in
    let kind = number-equal one.kind other.kind h1.1 in
    let deny = flag-equal one.deny other.deny h2.1 in
    let audit = flag-equal one.audit other.audit h3.1 in
    λ i. record { domain = domain i; kind = kind i; deny = deny i; audit = audit i }

net-same : (one : NetRule) → same_net_rule one one ≡ true
net-same one = λ i. number-same one.domain i && number-same one.kind i && flag-same one.deny i && flag-same one.audit i

other-equal : (one other : OtherRule) → same_other_rule one other ≡ true → one ≡ other
other-equal one other same =
    let h3 = halves (bytes_eq one.text other.text && same_flag one.owner other.owner && same_flag one.deny other.deny) (same_flag one.audit other.audit) same in
    let h2 = halves (bytes_eq one.text other.text && same_flag one.owner other.owner) (same_flag one.deny other.deny) h3.0 in
    let h1 = halves (bytes_eq one.text other.text) (same_flag one.owner other.owner) h2.0 in
    let text = bytes-equal one.text other.text h1.0 in
    let owner = flag-equal one.owner other.owner h1.1 in
    let deny = flag-equal one.deny other.deny h2.1 in
    let audit = flag-equal one.audit other.audit h3.1 in
    λ i. record { text = text i; owner = owner i; deny = deny i; audit = audit i }

other-same : (one : OtherRule) → same_other_rule one one ≡ true
other-same one = λ i. bytes-same one.text i && flag-same one.owner i && flag-same one.deny i && flag-same one.audit i

pub rule-equal : (one other : Rule) → same_rule one other ≡ true → one ≡ other
rule-equal (File one) (File other) same = ap File (file-equal one other same)
rule-equal (Cap one) (Cap other) same = ap Cap (cap-equal one other same)
rule-equal (Net one) (Net other) same = ap Net (net-equal one other same)
rule-equal (Other one) (Other other) same = ap Other (other-equal one other same)
rule-equal (File one) (Cap other) same = absurd (cc)
rule-equal (File one) (Net other) same = absurd (cc)
rule-equal (File one) (Other other) same = absurd (cc)
rule-equal (Cap one) (File other) same = absurd (cc)
rule-equal (Cap one) (Net other) same = absurd (cc)
rule-equal (Cap one) (Other other) same = absurd (cc)
rule-equal (Net one) (File other) same = absurd (cc)
rule-equal (Net one) (Cap other) same = absurd (cc)
rule-equal (Net one) (Other other) same = absurd (cc)
rule-equal (Other one) (File other) same = absurd (cc)
rule-equal (Other one) (Cap other) same = absurd (cc)
rule-equal (Other one) (Net other) same = absurd (cc)

rule-same : (one : Rule) → same_rule one one ≡ true
rule-same (File one) = file-same one
rule-same (Cap one) = cap-same one
rule-same (Net one) = net-same one
rule-same (Other one) = other-same one

pub equal-rule : (one other : Rule) → one ≡ other → same_rule one other ≡ true
equal-rule one other equal = subst (λ (rule : Rule). same_rule one rule ≡ true) equal (rule-same one)
