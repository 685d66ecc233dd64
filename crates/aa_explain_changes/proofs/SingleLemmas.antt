-- What rules say of one letter, by what they cover of all.
use Rattle.std.proofs.Common.{◌≡◌, ◌∙◌, ℕ, zero, suc, ◌*◌, ◌^◌, ◌<◌, Bool, true, false, not, ◌==◌, if◌then◌else◌, List, ap, arith, refl, sym}
use Rattle.std.specs.Int.{bit_at}
use Rattle.std.specs.Int.Bits.{or_zero_l, or_zero_r}
use Rattle.std.specs.Prelude.{None, Some}
use Rattle.std.proofs.lemmas.Nat.{and_comm, or_of_8}
use Rattle.std.proofs.lemmas.Nat.Bits.{and_pow, bit_at-lt, bit_at_or}
use Rattle.aa_decide_rules.specs.declared.verdict.Answer.{Answer}
use Rattle.aa_decide_rules.specs.declared.verdict.Answer.TheVariants.{Allow, Deny, Refuse}
use Rattle.aa_decide_rules.specs.declared.verdict.Tag.{Tag}
use Rattle.aa_decide_rules.specs.declared.verdict.Tag.TheVariants.{Audit, Denied}
use Rattle.aa_decide_rules.specs.declared.verdict.Verdict.{Verdict}
use Rattle.aa_decide_rules.specs.Found.{verdict_by}
use Rattle.aa_decide_rules.specs.Verdict.{allows, allows_aloud, denies, denies_aloud, logged, mask, verdict, when_missing}
use Rattle.aa_decide_rules.specs.declared.judgement.Mediation.TheVariants.{Enforcing}
use Rattle.aa_profile_data.specs.Access.{union, without}
use Rattle.aa_profile_data.specs.Request.{ForFile}
use Rattle.aa_profile_data.specs.declared.profile.Rule.{Rule}
use Rattle.aa_explain_changes.proofs.MaskLemmas.{mask-common, whole, without-all, without-none, without-small}

-- one letter, as a set: it is there, and below the sets of a byte
pub record IsLetter (n : ℕ) : Type 0 where
  pub some : (n == 0) ≡ false
  pub small : n < 2 ^ 8

module _ (owned : Bool) (path : List ℕ) (n : ℕ) (is : IsLetter n) where
  -- the verdict by masks of which each has the letter, or not
  abbrev view : ℕ → ℕ → ℕ → ℕ → Verdict
  view d l g a = verdict_by Enforcing (ForFile n owned path) (d * n) (l * n) (g * n) (a * n)

  once : 1 * n ≡ n
  once = omega arith

  view-denied : (l g a : ℕ) → view 1 l g a ≡ logged Deny Denied (l * n)
  view-denied l g a =
      let some : (1 * n == 0) ≡ false = ap (λ m. m == 0) once ∙ is.some in
      let rest = without (g * n) (1 * n) in
      let small : union (1 * n) rest < 2 ^ 8 = or_of_8 (1 * n) rest (omega (arith, is.small)) (without-small (g * n) (1 * n)) in
      let none : without n (union (1 * n) rest) ≡ 0 =
      without-all n (union (1 * n) rest) small (λ i low. let both = bit_at_or (1 * n) rest i in let same = ap (λ m. bit_at m i) once in omega (arith, both, same)) in
      rw some (ap (λ m. logged Deny Denied (union (l * n) m)) none ∙ ap (logged Deny Denied) (or_zero_r (l * n)))

  nought : 0 * n ≡ 0
  nought = omega arith

  nothing : (0 * n == 0) ≡ true
  nothing = ap (λ m. m == 0) nought

  view-refused : (l a : ℕ) → view 0 l 0 a ≡ logged Refuse Denied n
  view-refused l a =
      let missing : without n (union (0 * n) (without (0 * n) (0 * n))) ≡ n =
      ap (λ m. without n (union m (without m m))) nought
      ∙ ap (without n) (or_zero_l (without 0 0) ∙ without-none 0 (omega arith)) ∙ without-none n is.small in
      let some : (without n (union (0 * n) (without (0 * n) (0 * n))) == 0) ≡ false = ap (λ m. m == 0) missing ∙ is.some in
      let m = without n (union (0 * n) (without (0 * n) (0 * n))) in
      (λ i. if not (nothing i) then logged Deny Denied (union (l * n) m) else if not (some i) then when_missing Enforcing m else logged Allow Audit (a * n))
      ∙ ap (logged Refuse Denied) missing

  view-allowed : (l a : ℕ) → view 0 l 1 a ≡ logged Allow Audit (a * n)
  view-allowed l a =
      let missing : without n (union (0 * n) (without (1 * n) (0 * n))) ≡ 0 =
      (λ i. without n (union (nought i) (without (once i) (nought i))))
      ∙ ap (without n) (or_zero_l (without n 0) ∙ without-none n is.small)
      ∙ without-all n n is.small (λ i low. omega arith) in
      let none : (without n (union (0 * n) (without (1 * n) (0 * n))) == 0) ≡ true = ap (λ m. m == 0) missing in
      rw (nothing, none) refl

  -- what is logged tells whether the letter is
  log-bit : (answer : Answer) (tag : Tag) (l m : ℕ) → l < 2 → m < 2 → logged answer tag (l * n) ≡ logged answer tag (m * n) → l ≡ m
  log-bit answer tag zero zero low less same = refl
  log-bit answer tag (suc zero) (suc zero) low less same = refl
  log-bit answer tag zero (suc zero) low less same =
      let some : (1 * n == 0) ≡ false = ap (λ m. m == 0) once ∙ is.some in
      let tags : None ≡ Some tag =
      sym (ap (λ b. if b then None else Some tag) nothing) ∙ ap (λ (v : Verdict). v.tag) same ∙ ap (λ b. if b then None else Some tag) some in
      absurd cc
  log-bit answer tag (suc zero) zero low less same =
      let some : (1 * n == 0) ≡ false = ap (λ m. m == 0) once ∙ is.some in
      let tags : Some tag ≡ None =
      sym (ap (λ b. if b then None else Some tag) some) ∙ ap (λ (v : Verdict). v.tag) same ∙ ap (λ b. if b then None else Some tag) nothing in
      absurd cc
  log-bit answer tag (suc (suc l)) m low less same = absurd (omega (arith, low))
  log-bit answer tag zero (suc (suc m)) low less same = absurd (omega (arith, less))
  log-bit answer tag (suc zero) (suc (suc m)) low less same = absurd (omega (arith, less))

-- two rules say the same of a letter: one is denied where the other is, and alike in how it is logged; else it is allowed where the other is, and alike
pub record SameBits (d l g a e m h b : ℕ) : Type 0 where
  pub denied : d ≡ e
  pub loud : d ≡ 1 → l ≡ m
  pub granted : d ≡ 0 → g ≡ h
  pub audited : d ≡ 0 → g ≡ 1 → a ≡ b

module _ (owned : Bool) (path : List ℕ) (n : ℕ) (is : IsLetter n) (l m a b : ℕ) (low_l : l < 2) (low_m : m < 2) (low_a : a < 2) (low_b : b < 2) where
  abbrev of : ℕ → ℕ → ℕ → ℕ → Verdict
  of = view owned path n is

  answers : (v w : Verdict) → v ≡ w → v.answer ≡ w.answer
  answers v w same = ap (λ (v : Verdict). v.answer) same

  both-denied : (g h : ℕ) → of 1 l g a ≡ of 1 m h b → SameBits 1 l g a 1 m h b
  both-denied g h same = record {
    denied = refl;
    loud = λ _. log-bit owned path n is Deny Denied l m low_l low_m (sym (view-denied owned path n is l g a) ∙ same ∙ view-denied owned path n is m h b);
    granted = λ none. absurd (omega (arith, none));
    audited = λ none. absurd (omega (arith, none));
  }

  none-denied : (g h : ℕ) → g < 2 → h < 2 → of 0 l g a ≡ of 0 m h b → SameBits 0 l g a 0 m h b
  none-denied zero zero low less same = record {
    denied = refl;
    loud = λ some. absurd (omega (arith, some));
    granted = λ _. refl;
    audited = λ _ some. absurd (omega (arith, some));
  }
  none-denied (suc zero) (suc zero) low less same = record {
    denied = refl;
    loud = λ some. absurd (omega (arith, some));
    granted = λ _. refl;
    audited = λ _ _. log-bit owned path n is Allow Audit a b low_a low_b (sym (view-allowed owned path n is l a) ∙ same ∙ view-allowed owned path n is m b);
  }
  none-denied zero (suc zero) low less same =
      let wrong : Refuse ≡ Allow = ap (λ (v : Verdict). v.answer) (sym (view-refused owned path n is l a) ∙ same ∙ view-allowed owned path n is m b) in absurd cc
  none-denied (suc zero) zero low less same =
      let wrong : Allow ≡ Refuse = ap (λ (v : Verdict). v.answer) (sym (view-allowed owned path n is l a) ∙ same ∙ view-refused owned path n is m b) in absurd cc
  none-denied (suc (suc g)) h low less same = absurd (omega (arith, low))
  none-denied zero (suc (suc h)) low less same = absurd (omega (arith, less))
  none-denied (suc zero) (suc (suc h)) low less same = absurd (omega (arith, less))

  not-one : (g h : ℕ) → g < 2 → of 0 l g a ≡ of 1 m h b → ⊥
  not-one zero h low same =
      let wrong : Refuse ≡ Deny = ap (λ (v : Verdict). v.answer) (sym (view-refused owned path n is l a) ∙ same ∙ view-denied owned path n is m h b) in absurd cc
  not-one (suc zero) h low same =
      let wrong : Allow ≡ Deny = ap (λ (v : Verdict). v.answer) (sym (view-allowed owned path n is l a) ∙ same ∙ view-denied owned path n is m h b) in absurd cc
  not-one (suc (suc g)) h low same = absurd (omega (arith, low))

  not-other : (g h : ℕ) → h < 2 → of 1 l g a ≡ of 0 m h b → ⊥
  not-other g zero less same =
      let wrong : Deny ≡ Refuse = ap (λ (v : Verdict). v.answer) (sym (view-denied owned path n is l g a) ∙ same ∙ view-refused owned path n is m b) in absurd cc
  not-other g (suc zero) less same =
      let wrong : Deny ≡ Allow = ap (λ (v : Verdict). v.answer) (sym (view-denied owned path n is l g a) ∙ same ∙ view-allowed owned path n is m b) in absurd cc
  not-other g (suc (suc h)) less same = absurd (omega (arith, less))

  same-view : (d e g h : ℕ) → d < 2 → e < 2 → g < 2 → h < 2 → of d l g a ≡ of e m h b → SameBits d l g a e m h b
  same-view (suc zero) (suc zero) g h low_d low_e low_g low_h same = both-denied g h same
  same-view zero zero g h low_d low_e low_g low_h same = none-denied g h low_g low_h same
  same-view zero (suc zero) g h low_d low_e low_g low_h same = absurd (not-one g h low_g same)
  same-view (suc zero) zero g h low_d low_e low_g low_h same = absurd (not-other g h low_h same)
  same-view (suc (suc d)) e g h low_d low_e low_g low_h same = absurd (omega (arith, low_d))
  same-view zero (suc (suc e)) g h low_d low_e low_g low_h same = absurd (omega (arith, low_e))
  same-view (suc zero) (suc (suc e)) g h low_d low_e low_g low_h same = absurd (omega (arith, low_e))

module _ (owned : Bool) (path : List ℕ) (k : ℕ) (is : IsLetter (2 ^ k)) where
  mask-single : (test : Rule → Bool) (rules : List Rule) → mask (ForFile (2 ^ k) owned path) test rules ≡ bit_at (whole owned path test rules) k * 2 ^ k
  mask-single test rules =
      mask-common owned path (2 ^ k) test rules ∙ and_comm (2 ^ k) (whole owned path test rules) ∙ and_pow (whole owned path test rules) k

  -- what rules cover of a letter
  abbrev pub at : (Rule → Bool) → List Rule → ℕ
  at test rules = bit_at (whole owned path test rules) k

  to-view : (flag : Bool) (rules : List Rule)
      → verdict Enforcing flag rules (ForFile (2 ^ k) owned path)
      ≡ view owned path (2 ^ k) is (at denies rules) (at (denies_aloud flag) rules) (at allows rules) (at (allows_aloud flag) rules)
  to-view flag rules =
      λ i. verdict_by Enforcing (ForFile (2 ^ k) owned path)
      (mask-single denies rules i) (mask-single (denies_aloud flag) rules i) (mask-single allows rules i) (mask-single (allows_aloud flag) rules i)

  -- two sides that say the same of a letter cover it alike
  pub single-bits : (flag other : Bool) (rules others : List Rule)
      → verdict Enforcing flag rules (ForFile (2 ^ k) owned path) ≡ verdict Enforcing other others (ForFile (2 ^ k) owned path)
      → SameBits (at denies rules) (at (denies_aloud flag) rules) (at allows rules) (at (allows_aloud flag) rules)
      (at denies others) (at (denies_aloud other) others) (at allows others) (at (allows_aloud other) others)
  single-bits flag other rules others same =
      let bit : (test : Rule → Bool) (rules : List Rule) → at test rules < 2 = λ test rules. bit_at-lt (whole owned path test rules) k in
      same-view owned path (2 ^ k) is (at (denies_aloud flag) rules) (at (denies_aloud other) others) (at (allows_aloud flag) rules) (at (allows_aloud other) others)
      (bit (denies_aloud flag) rules) (bit (denies_aloud other) others) (bit (allows_aloud flag) rules) (bit (allows_aloud other) others)
      (at denies rules) (at denies others) (at allows rules) (at allows others)
      (bit denies rules) (bit denies others) (bit allows rules) (bit allows others)
      (sym (to-view flag rules) ∙ same ∙ to-view other others)
