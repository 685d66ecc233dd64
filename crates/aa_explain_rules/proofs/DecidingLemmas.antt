-- The rules that apply decide alone.
use Rattle.std.proofs.Common.{◌≡◌, ◌∙◌, ℕ, Bool, true, false, List, [], ◌∷◌, refl, sym, ap, arith}
use Rattle.std.specs.Prelude.{◌&&◌}
use Rattle.std.specs.List.{filter}
use Rattle.std.proofs.lemmas.Nat.Bits.{bit_at-zero, bit_at_or, same_from_bits}
use Rattle.aa_profile_data.specs.Access.{union}
use Rattle.aa_profile_data.specs.Request.{Request}
use Rattle.aa_profile_data.specs.Picked.{picked}
use Rattle.aa_decide_rules.specs.declared.judgement.Mediation.{Mediation}
use Rattle.aa_profile_data.specs.declared.profile.Rule.{Rule}
use Rattle.aa_decide_rules.specs.Verdict.{allowed, allows, allows_aloud, applies, audited, covers, denied, denies, denies_aloud, granted, loud, mask, missing, verdict, with_covered, with_rule}
use Rattle.aa_explain_rules.specs.Laws.{but, is_told_to_allow, is_told_to_deny, places_of}
use Rattle.aa_explain_rules.specs.Told.{told}
use Rattle.aa_explain_rules.proofs.PlaceLemmas.{pick, told-places}

-- a set with nothing more
with-none : (set : ℕ) → union set 0 ≡ set
with-none set = same_from_bits (union set 0) set (λ i. let bits = bit_at_or set 0 i in let none = bit_at-zero i in omega arith)

-- a rule that doesn't apply adds nothing
pub unapplied : (request : Request) (test : Rule → Bool) (set : ℕ) (rule : Rule) → applies request rule ≡ false → with_rule request test set rule ≡ set
unapplied request test set rule fails = by (test rule) refl
  where
    by : (b : Bool) → test rule ≡ b → with_rule request test set rule ≡ set
    by true e = rw (with_rule, covers, e, fails) (with-none set)
    by false e = rw (with_rule, e) refl

-- so those that apply cover what all do
applying-cover : (request : Request) (test : Rule → Bool) (set : ℕ) (rules : List Rule)
    → with_covered request test set (filter (applies request) rules) ≡ with_covered request test set rules
applying-cover request test set [] = refl
applying-cover request test set (rule ∷ rules) = by (applies request rule) refl (λ set. applying-cover request test set rules)
  where
    by : (b : Bool) → applies request rule ≡ b → ((set : ℕ) → with_covered request test set (filter (applies request) rules) ≡ with_covered request test set rules)
        → with_covered request test set (filter (applies request) (rule ∷ rules)) ≡ with_covered request test set (rule ∷ rules)
    by true e rest =
        let kept : filter (applies request) (rule ∷ rules) ≡ rule ∷ filter (applies request) rules = rw e refl in
        ap (with_covered request test set) kept ∙ rest (with_rule request test set rule)
    by false e rest =
        let gone : filter (applies request) (rule ∷ rules) ≡ filter (applies request) rules = rw e refl in
        ap (with_covered request test set) gone ∙ rest set ∙ ap (λ set. with_covered request test set rules) (sym (unapplied request test set rule e))

-- the verdict by masks alone
module _ (mediation : Mediation) (flag : Bool) (request : Request) (rules others : List Rule) (same : (test : Rule → Bool) → mask request test rules ≡ mask request test others) where
  same-missing : missing request rules ≡ missing request others
  same-missing = rw (missing, allowed, granted, denied, same allows, same denies) refl

  same-verdict : verdict mediation flag rules request ≡ verdict mediation flag others request
  same-verdict = rw (verdict, same-missing, loud, audited, denied, same denies, same (denies_aloud flag), same (allows_aloud flag)) refl

-- the rules that are told decide alone
pub told-decide : (mediation : Mediation) (flag : Bool) (request : Request) (rules : List Rule)
    → verdict mediation flag (picked rules (places_of (told flag request rules))) request ≡ verdict mediation flag rules request
told-decide mediation flag request rules =
    ap (λ places. verdict mediation flag (picked rules places) request) (told-places flag request 0 rules)
    ∙ ap (λ rules. verdict mediation flag rules request) (pick (applies request) rules)
    ∙ same-verdict mediation flag request (filter (applies request) rules) rules (λ test. applying-cover request test 0 rules)

-- without the rules that apply and pass a test, those that pass it cover nothing
none-left : (request : Request) (test : Rule → Bool) (rules : List Rule) → mask request test (but (λ rule. applies request rule && test rule) rules) ≡ 0
none-left request test [] = refl
none-left request test (rule ∷ rules) = by (applies request rule) refl (test rule) refl (none-left request test rules)
  where
    rest : List Rule
    rest = but (λ rule. applies request rule && test rule) rules

    by : (a : Bool) → applies request rule ≡ a → (b : Bool) → test rule ≡ b → mask request test rest ≡ 0
        → mask request test (but (λ rule. applies request rule && test rule) (rule ∷ rules)) ≡ 0
    by true a true b none =
        let gone : but (λ rule. applies request rule && test rule) (rule ∷ rules) ≡ rest = rw (a, b) refl in
        ap (mask request test) gone ∙ none
    by true a false b none =
        let kept : but (λ rule. applies request rule && test rule) (rule ∷ rules) ≡ rule ∷ rest = rw (a, b) refl in
        let nothing : with_rule request test 0 rule ≡ 0 = rw (with_rule, b) refl in
        ap (mask request test) kept ∙ ap (λ set. with_covered request test set rest) nothing ∙ none
    by false a b e none =
        let kept : but (λ rule. applies request rule && test rule) (rule ∷ rules) ≡ rule ∷ rest = rw a refl in
        ap (mask request test) kept ∙ ap (λ set. with_covered request test set rest) (unapplied request test 0 rule a) ∙ none

pub none-denied : (request : Request) (rules : List Rule) → denied request (but (is_told_to_deny request) rules) ≡ 0
none-denied request rules = none-left request denies rules

pub none-allowed : (request : Request) (rules : List Rule) → allowed request (but (is_told_to_allow request) rules) ≡ 0
none-allowed request rules = let none : granted request (but (is_told_to_allow request) rules) ≡ 0 = none-left request allows rules in rw (allowed, none) refl
