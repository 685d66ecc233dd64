-- An answer is logged where a rule that is told logs something of it, or where something is missing.
use Rattle.std.proofs.Common.{◌≡◌, ◌∙◌, ℕ, ◌+◌, Bool, true, false, not, ◌||◌, List, [], ◌∷◌, refl, sym, ap, arith}
use Rattle.std.specs.Prelude.{◌&&◌, ◌==◌, is_some}
use Rattle.std.specs.Int.{bit_at}
use Rattle.std.specs.List.{list_any}
use Rattle.std.proofs.lemmas.Bool.Decides.{nat_tests}
use Rattle.std.proofs.lemmas.Nat.Bits.{bit_at-zero, bit_at_or, same_from_bits}
use Rattle.aa_profile_data.specs.Access.{union}
use Rattle.aa_profile_data.specs.Request.{Request}
use Rattle.aa_decide_rules.specs.declared.judgement.Mediation.{Mediation}
use Rattle.aa_decide_rules.specs.declared.judgement.Mediation.TheVariants.{Complaining, Enforcing}
use Rattle.aa_profile_data.specs.declared.profile.Rule.{Rule}
use Rattle.aa_decide_rules.specs.Verdict.{allows_aloud, applies, audited, covers, denied, denies, denies_aloud, is_audited, logged, loud, mask, missing, verdict, when_missing, with_covered, with_rule}
use Rattle.aa_decide_rules.specs.declared.verdict.Answer.{Answer}
use Rattle.aa_decide_rules.specs.declared.verdict.Answer.TheVariants.{Allow, Complain, Deny, Refuse}
use Rattle.aa_decide_rules.specs.declared.verdict.Tag.{Tag}
use Rattle.aa_decide_rules.specs.declared.verdict.Tag.TheVariants.{Allowed, Audit, Denied}
use Rattle.aa_explain_rules.specs.Logged.{does_something, is_denied, is_logged, some_is_logged}
use Rattle.aa_explain_rules.specs.Told.{told, told_from, told_rule}
use Rattle.aa_explain_rules.specs.declared.told.ToldRule.{ToldRule}
use Rattle.aa_explain_rules.proofs.DecidingLemmas.{unapplied}

-- two sets together are empty where both are
union-empty : (one other : ℕ) → union one other ≡ 0 → one ≡ 0
union-empty one other none = same_from_bits one 0 (λ i. let bits = bit_at_or one other i in let zero : bit_at (union one other) i ≡ bit_at 0 i = ap (λ n. bit_at n i) none in let nothing = bit_at-zero i in omega arith)

union-empty-too : (one other : ℕ) → union one other ≡ 0 → other ≡ 0
union-empty-too one other none = same_from_bits other 0 (λ i. let bits = bit_at_or one other i in let zero : bit_at (union one other) i ≡ bit_at 0 i = ap (λ n. bit_at n i) none in let nothing = bit_at-zero i in omega arith)

union-is-empty : (one other : ℕ) → (union one other == 0) ≡ ((one == 0) && (other == 0))
union-is-empty one other = by (union one other == 0) refl (one == 0) refl (other == 0) refl
  where
    by : (u : Bool) → (union one other == 0) ≡ u → (o : Bool) → (one == 0) ≡ o → (p : Bool) → (other == 0) ≡ p → u ≡ (o && p)
    by true d true e true f = refl
    by true d true e false f = let none : union one other ≡ 0 = grind (arith, nat_tests) in let two : other ≡ 0 = union-empty-too one other none in grind (arith, nat_tests)
    by true d false e p f = let none : union one other ≡ 0 = grind (arith, nat_tests) in let first : one ≡ 0 = union-empty one other none in grind (arith, nat_tests)
    by false d true e true f =
        let first : one ≡ 0 = grind (arith, nat_tests) in
        let second : other ≡ 0 = grind (arith, nat_tests) in
        let whole : (union one other == 0) ≡ true = ap (λ n. union n other == 0) first ∙ ap (λ n. union 0 n == 0) second in
        sym d ∙ whole
    by false d true e false f = refl
    by false d false e p f = refl

-- a test on rules, and the same on what is told of them
module _ (flag : Bool) (request : Request) (test : Rule → Bool) (told_test : ToldRule → Bool) (same : (place : ℕ) (rule : Rule) → told_test (told_rule flag request place rule) ≡ test rule) where
  abbrev does : ToldRule → Bool
  does rule = does_something rule && told_test rule

  -- rules that pass the test cover something where one that is told does
  some-covers : (first set : ℕ) (rules : List Rule) → (with_covered request test set rules == 0) ≡ ((set == 0) && not (list_any does (told_from flag request first rules)))
  some-covers first set [] = by (set == 0)
    where
      by : (b : Bool) → b ≡ (b && true)
      by true = refl
      by false = refl
  some-covers first set (rule ∷ rules) = by (applies request rule) refl (test rule) refl (λ set. some-covers (first + 1) set rules)
    where
      Rest : Type 0
      Rest = (set : ℕ) → (with_covered request test set rules == 0) ≡ ((set == 0) && not (list_any does (told_from flag request (first + 1) rules)))

      others : Bool
      others = list_any does (told_from flag request (first + 1) rules)

      fold : (s c o : Bool) → ((s && c) && not o) ≡ (s && not ((not c && true) || o))
      fold true true o = refl
      fold true false o = refl
      fold false c o = refl

      none : (s c o : Bool) → (s && not o) ≡ (s && not ((not c && false) || o))
      none true true o = refl
      none true false o = refl
      none false c o = refl

      by : (a : Bool) → applies request rule ≡ a → (t : Bool) → test rule ≡ t → Rest
          → (with_covered request test set (rule ∷ rules) == 0) ≡ ((set == 0) && not (list_any does (told_from flag request first (rule ∷ rules))))
      by false a t e rest =
          let gone : told_from flag request first (rule ∷ rules) ≡ told_from flag request (first + 1) rules = rw a refl in
          ap (λ set. with_covered request test set rules == 0) (unapplied request test set rule a) ∙ rest set ∙ ap (λ told. (set == 0) && not (list_any does told)) (sym gone)
      by true a true e rest =
          let kept : told_from flag request first (rule ∷ rules) ≡ told_rule flag request first rule ∷ told_from flag request (first + 1) rules = rw a refl in
          let more : with_rule request test set rule ≡ union set (covers request rule) = rw (with_rule, e) refl in
          ap (λ set. with_covered request test set rules == 0) more
          ∙ rest (union set (covers request rule))
          ∙ ap (λ b. b && not others) (union-is-empty set (covers request rule))
          ∙ fold (set == 0) (covers request rule == 0) others
          ∙ ap (λ b. (set == 0) && not ((not (covers request rule == 0) && b) || others)) (sym (same first rule ∙ e))
          ∙ ap (λ told. (set == 0) && not (list_any does told)) (sym kept)
      by true a false e rest =
          let kept : told_from flag request first (rule ∷ rules) ≡ told_rule flag request first rule ∷ told_from flag request (first + 1) rules = rw a refl in
          let alike : with_rule request test set rule ≡ set = rw (with_rule, e) refl in
          ap (λ set. with_covered request test set rules == 0) alike
          ∙ rest set
          ∙ none (set == 0) (covers request rule == 0) others
          ∙ ap (λ b. (set == 0) && not ((not (covers request rule == 0) && b) || others)) (sym (same first rule ∙ e))
          ∙ ap (λ told. (set == 0) && not (list_any does told)) (sym kept)

  -- so what they cover together is something where one does
  some-does : (rules : List Rule) → list_any does (told flag request rules) ≡ not (mask request test rules == 0)
  some-does rules = twice (list_any does (told flag request rules)) ∙ ap not (sym (some-covers 0 0 rules))
    where
      twice : (b : Bool) → b ≡ not (not b)
      twice true = refl
      twice false = refl

module _ (flag : Bool) (request : Request) (rules : List Rule) where
  abbrev all : List ToldRule
  all = told flag request rules

  some-denies : is_denied all ≡ not (denied request rules == 0)
  some-denies = some-does flag request denies (λ rule. rule.denies) (λ place rule. refl) rules

  turned : (a b : Bool) → (a && b) ≡ (b && a)
  turned true true = refl
  turned true false = refl
  turned false true = refl
  turned false false = refl

  some-loud : list_any (is_logged true) all ≡ not (loud flag request rules == 0)
  some-loud = some-does flag request (denies_aloud flag) (λ rule. rule.audited && rule.denies) (λ place rule. turned (is_audited flag rule) (denies rule)) rules

  some-audited : list_any (is_logged false) all ≡ not (audited flag request rules == 0)
  some-audited = some-does flag request (allows_aloud flag) (λ rule. rule.audited && not rule.denies) (λ place rule. turned (is_audited flag rule) (not (denies rule))) rules

  tagged : (answer : Answer) (tag : Tag) (mask : ℕ) → is_some (logged answer tag mask).tag ≡ not (mask == 0)
  tagged answer tag mask = by (mask == 0) refl
    where
      by : (b : Bool) → (mask == 0) ≡ b → is_some (logged answer tag mask).tag ≡ not (mask == 0)
      by true e = rw e refl
      by false e = rw e refl

  tagged-missing : (mediation : Mediation) (mask : ℕ) → is_some (when_missing mediation mask).tag ≡ not (mask == 0)
  tagged-missing Enforcing mask = tagged Refuse Denied mask
  tagged-missing Complaining mask = tagged Complain Allowed mask

  logged-as : (b : Bool) → is_denied all ≡ b → some_is_logged all ≡ list_any (is_logged b) all
  logged-as b e = ap (λ b. list_any (is_logged b) all) e

  turned-over : (one other : Bool) → not (one && other) ≡ (not other || not one)
  turned-over true true = refl
  turned-over true false = refl
  turned-over false true = refl
  turned-over false false = refl

  pub is-logged : (mediation : Mediation) → is_some (verdict mediation flag rules request).tag ≡ (not (missing request rules == 0) || some_is_logged all)
  is-logged mediation = by (denied request rules == 0) refl (missing request rules == 0) refl
    where
      by : (d : Bool) → (denied request rules == 0) ≡ d → (m : Bool) → (missing request rules == 0) ≡ m
          → is_some (verdict mediation flag rules request).tag ≡ (not (missing request rules == 0) || some_is_logged all)
      by true e true f =
          let is : verdict mediation flag rules request ≡ logged Allow Audit (audited flag request rules) = rw (verdict, e, f) refl in
          ap (λ v. is_some v.tag) is
          ∙ tagged Allow Audit (audited flag request rules)
          ∙ sym (ap (λ m. not m || some_is_logged all) f ∙ logged-as false (some-denies ∙ ap not e) ∙ some-audited)
      by true e false f =
          let is : verdict mediation flag rules request ≡ when_missing mediation (missing request rules) = rw (verdict, e, f) refl in
          ap (λ v. is_some v.tag) is
          ∙ tagged-missing mediation (missing request rules)
          ∙ ap not f
          ∙ sym (ap (λ m. not m || some_is_logged all) f)
      by false e m f =
          let is : verdict mediation flag rules request ≡ logged Deny Denied (union (loud flag request rules) (missing request rules)) = rw (verdict, e) refl in
          ap (λ v. is_some v.tag) is
          ∙ tagged Deny Denied (union (loud flag request rules) (missing request rules))
          ∙ ap not (union-is-empty (loud flag request rules) (missing request rules))
          ∙ turned-over (loud flag request rules == 0) (missing request rules == 0)
          ∙ sym (ap (λ b. not (missing request rules == 0) || b) (logged-as true (some-denies ∙ ap not e) ∙ some-loud))
