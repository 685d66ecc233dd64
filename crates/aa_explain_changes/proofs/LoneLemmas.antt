-- The rules that one side alone has stand at their numbers, and each rule of a side is one of them or stands on the other side too.
use Rattle.std.proofs.Common.{◌≡◌, ◌⊎◌, ℕ, zero, suc, ◌+◌, Bool, true, false, ◌||◌, List, [], ◌∷◌, refl, sym, ◌∙◌, ap, subst, inl, inr, arith, true≢false}
use Rattle.std.specs.Prelude.{Contains, Some, slice_get}
use Rattle.std.specs.List.{list_any}
use Rattle.aa_explain_diff.specs.Features.{Feature, OfRule, has_feature, lacking, rules_from}
use Rattle.aa_glob_nfa.proofs.ListLemmas.{Contains-cons_cases, Contains-first, Contains-later}
use Rattle.aa_profile_data.proofs.SameLemmas.{rule-equal}
use Rattle.aa_profile_data.specs.SameRules.{same_rule}
use Rattle.aa_profile_data.specs.declared.profile.FileRule.{FileRule}
use Rattle.aa_profile_data.specs.declared.profile.Rule.{Rule}
use Rattle.aa_profile_data.specs.declared.profile.Rule.TheVariants.{Cap, File, Net, Other}
use Rattle.aa_explain_changes.specs.Lone.{LoneRule, file_at, files_among, lone_rules}

-- where one of some passes a test, it is there
pub exists : {X : Type 0} (test : X → Bool) (xs : List X) → list_any test xs ≡ true → (x : X) × Contains xs x × (test x ≡ true)
exists test [] some = absurd (true≢false (sym some))
exists {X} test (one ∷ xs) some = by (test one) refl some (exists test xs)
  where
    by : (b : Bool) → test one ≡ b → (b || list_any test xs) ≡ true → (list_any test xs ≡ true → (x : X) × Contains xs x × (test x ≡ true))
        → (x : X) × Contains (one ∷ xs) x × (test x ≡ true)
    by true is some later = (one, Contains-first one xs, is)
    by false is some later = let there = later some in (there.0, Contains-later one xs there.0 there.1, there.2)

pub there : {X : Type 0} (test : X → Bool) (xs : List X) (x : X) → Contains xs x → test x ≡ true → list_any test xs ≡ true
there test [] x at passes = absurd (omega (arith, at.1))
there {X} test (one ∷ xs) x at passes = by (test one) refl (there test xs x)
  where
    by : (b : Bool) → test one ≡ b → (Contains xs x → test x ≡ true → list_any test xs ≡ true) → (b || list_any test xs) ≡ true
    by true is later = refl
    by false is later = elim (Contains-cons_cases one xs x at) [
      | inl same ↦ absurd (true≢false (sym passes ∙ ap test (sym same) ∙ is))
      | inr more ↦ later more passes
    ]

-- those of some rules that others lack, or all, by their numbers from this one on
abbrev feats : Bool → List Rule → ℕ → List Rule → List Feature
feats true others number rules = rules_from number rules
feats false others number rules = lacking (rules_from 0 others) (rules_from number rules)

-- a rule is there, if others have it
rule-there : (number : ℕ) (rules : List Rule) (rule : Rule) (at : ℕ) → has_feature (rules_from number rules) (OfRule rule at) ≡ list_any (same_rule rule) rules
rule-there number [] rule at = refl
rule-there number (first ∷ rules) rule at = ap (λ b. same_rule rule first || b) (rule-there (number + 1) rules rule at)

-- the first rule is kept, or others have it
feats-cons : (all : Bool) (others : List Rule) (number : ℕ) (rule : Rule) (rules : List Rule)
    → (feats all others number (rule ∷ rules) ≡ OfRule rule number ∷ feats all others (number + 1) rules)
    ⊎ ((feats all others number (rule ∷ rules) ≡ feats all others (number + 1) rules) × ((all ≡ false) × Contains others rule))
feats-cons true others number rule rules = inl refl
feats-cons false others number rule rules = by (has_feature (rules_from 0 others) (OfRule rule number)) refl
  where
    by : (b : Bool) → has_feature (rules_from 0 others) (OfRule rule number) ≡ b
        → (feats false others number (rule ∷ rules) ≡ OfRule rule number ∷ feats false others (number + 1) rules)
        ⊎ ((feats false others number (rule ∷ rules) ≡ feats false others (number + 1) rules) × ((false ≡ false) × Contains others rule))
    by false is = inl (rw is refl)
    by true is =
        let found = exists (same_rule rule) others (sym (rule-there 0 others rule number) ∙ is) in
        let same : found.0 ≡ rule = sym (rule-equal rule found.0 found.2) in
        inr (rw is refl, (refl, subst (Contains others) same found.1))

-- what stands behind the first rule is among them
later-among : (all : Bool) (others : List Rule) (number : ℕ) (rule : Rule) (rules : List Rule) (l : LoneRule)
    → Contains (files_among (feats all others (number + 1) rules)) l → Contains (files_among (feats all others number (rule ∷ rules))) l
later-among all others number rule rules l at = elim (feats-cons all others number rule rules) [
  | inl kept ↦ subst (λ f. Contains (files_among f) l) (sym kept) (of rule)
  | inr dropped ↦ subst (λ f. Contains (files_among f) l) (sym dropped.0) at
]
  where
    more : List LoneRule
    more = files_among (feats all others (number + 1) rules)

    of : (rule : Rule) → Contains (file_at rule number more) l
    of (File own) = Contains-later (record { rule = own; number = number }) more l at
    of (Cap own) = at
    of (Net own) = at
    of (Other own) = at

-- a rule that one side alone has stands at its number
lone-from : (all : Bool) (others : List Rule) (number : ℕ) (rules : List Rule) (l : LoneRule) → Contains (files_among (feats all others number rules)) l
    → (k : ℕ) × (l.number ≡ number + k) × (slice_get rules k ≡ Some (File l.rule))
lone-from true others number [] l at = absurd (omega (arith, at.1))
lone-from false others number [] l at = absurd (omega (arith, at.1))
lone-from all others number (rule ∷ rules) l at =
    let later = behind (lone-from all others (number + 1) rules l) in
    elim (feats-cons all others number rule rules) [
      | inl kept ↦ of rule refl later (subst (λ f. Contains (files_among f) l) kept at)
      | inr dropped ↦ later (subst (λ f. Contains (files_among f) l) dropped.0 at)
    ]
  where
    more : List LoneRule
    more = files_among (feats all others (number + 1) rules)

    Stands : Type 0
    Stands = (k : ℕ) × (l.number ≡ number + k) × (slice_get (rule ∷ rules) k ≡ Some (File l.rule))

    behind : (Contains more l → (k : ℕ) × (l.number ≡ (number + 1) + k) × (slice_get rules k ≡ Some (File l.rule))) → Contains more l → Stands
    behind rest later = let found = rest later in (suc found.0, omega (arith, found.1), found.2)

    of : (own : Rule) → rule ≡ own → (Contains more l → Stands) → Contains (file_at own number more) l → Stands
    of (File own) is behind here = elim (Contains-cons_cases (record { rule = own; number = number }) more l here) [
      | inl same ↦ (0, ap (λ (l : LoneRule). l.number) (sym same) ∙ omega arith, ap Some (is ∙ ap (λ (l : LoneRule). File l.rule) same))
      | inr later ↦ behind later
    ]
    of (Cap own) is behind here = behind here
    of (Net own) is behind here = behind here
    of (Other own) is behind here = behind here

-- they are those of the definition
feats-are : (all : Bool) (others rules : List Rule) → lone_rules all others rules ≡ files_among (feats all others 0 rules)
feats-are true others rules = refl
feats-are false others rules = refl

pub lone-at : (all : Bool) (others rules : List Rule) (l : LoneRule) → Contains (lone_rules all others rules) l → slice_get rules l.number ≡ Some (File l.rule)
lone-at all others rules l at =
    let found = lone-from all others 0 rules l (subst (λ ls. Contains ls l) (feats-are all others rules) at) in
    let same : l.number ≡ found.0 = found.1 ∙ omega arith in
    ap (slice_get rules) same ∙ found.2

-- what stands at a place is there
pub at-there : {X : Type 0} (xs : List X) (k : ℕ) (x : X) → slice_get xs k ≡ Some x → Contains xs x
at-there [] k x is = absurd cc
at-there (one ∷ xs) zero x is = let same : one ≡ x = cc in subst (Contains (one ∷ xs)) same (Contains-first one xs)
at-there (one ∷ xs) (suc k) x is = Contains-later one xs x (at-there xs k x is)

-- each rule on files is one that the side alone has, or stands on the other side too
lone-or-from : (all : Bool) (others : List Rule) (number : ℕ) (rules : List Rule) (rule : FileRule) → Contains rules (File rule)
    → ((l : LoneRule) × Contains (files_among (feats all others number rules)) l × (l.rule ≡ rule)) ⊎ ((all ≡ false) × Contains others (File rule))
lone-or-from all others number [] rule at = absurd (omega (arith, at.1))
lone-or-from all others number (one ∷ rules) rule at = elim (Contains-cons_cases one rules (File rule) at) [
  | inl same ↦ elim (feats-cons all others number one rules) [
    | inl kept ↦ inl (
        let own : LoneRule = record { rule = rule; number = number } in
        let more = files_among (feats all others (number + 1) rules) in
        (own, subst (λ f. Contains (files_among f) own) (sym kept) (subst (λ r. Contains (file_at r number more) own) (sym same) (Contains-first own more)), refl))
    | inr dropped ↦ inr (dropped.1.0, subst (Contains others) same dropped.1.1)
  ]
  | inr later ↦ elim (lone-or-from all others (number + 1) rules rule later) [
    | inl found ↦ inl (found.0, later-among all others number one rules found.0 found.1, found.2)
    | inr there ↦ inr there
  ]
]

pub lone-or-there : (all : Bool) (others rules : List Rule) (rule : FileRule) → Contains rules (File rule)
    → ((l : LoneRule) × Contains (lone_rules all others rules) l × (l.rule ≡ rule)) ⊎ ((all ≡ false) × Contains others (File rule))
lone-or-there all others rules rule at = elim (lone-or-from all others 0 rules rule at) [
  | inl found ↦ inl (found.0, subst (λ ls. Contains ls found.0) (sym (feats-are all others rules)) found.1, found.2)
  | inr there ↦ inr there
]
