-- Two sides that say the same of each letter say the same of any letters.
use Rattle.std.proofs.Common.{◌≡◌, ◌∙◌, ℕ, zero, suc, ◌-◌, ◌^◌, ◌<◌, ◌≤◌, Bool, true, false, not, ◌==◌, if◌then◌else◌, List, ap, arith, inl, inr, min, refl}
use Rattle.std.specs.Int.{bit_at}
use Rattle.std.specs.Prelude.{Contains}
use Rattle.std.proofs.lemmas.Bool.{and_parts, cases_lt, eqb-true}
use Rattle.std.proofs.lemmas.Nat.{or_of_8}
use Rattle.std.proofs.lemmas.Nat.Bits.{bit_at-lt, bit_at-zero, bit_at_above, bit_at_or, same_from_bits}
use Rattle.aa_decide_rules.specs.declared.verdict.Answer.TheVariants.{Allow, Deny}
use Rattle.aa_decide_rules.specs.declared.verdict.Tag.TheVariants.{Audit, Denied}
use Rattle.aa_decide_rules.specs.declared.verdict.Verdict.{Verdict}
use Rattle.aa_decide_rules.specs.Verdict.{allows, allows_aloud, denies, denies_aloud, is_audited, logged, mask, verdict, when_missing}
use Rattle.aa_decide_rules.specs.declared.judgement.Mediation.{Mediation}
use Rattle.aa_explain_paths.specs.Claims.{single_letters}
use Rattle.aa_profile_data.specs.Access.{union, without}
use Rattle.aa_profile_data.specs.Request.{ForFile, Request}
use Rattle.aa_profile_data.specs.declared.profile.Rule.{Rule}
use Rattle.aa_explain_changes.specs.Laws.{LettersDecideSets}
use Rattle.aa_explain_changes.specs.Sides.{Side, side_verdict}
use Rattle.aa_explain_changes.proofs.MaskLemmas.{mask-bit, mask-small, whole, whole-less, without-above, without-bit, without-small}
use Rattle.aa_explain_changes.proofs.SingleLemmas.{IsLetter, SameBits, single-bits}

-- each letter is one, and stands among all
letter-is : (k : ℕ) → k < 7 → IsLetter (2 ^ k) × Contains single_letters (2 ^ k)
letter-is zero low = (record { some = refl; small = omega arith }, (0, omega arith, refl))
letter-is (suc zero) low = (record { some = refl; small = omega arith }, (1, omega arith, refl))
letter-is (suc (suc zero)) low = (record { some = refl; small = omega arith }, (2, omega arith, refl))
letter-is (suc (suc (suc zero))) low = (record { some = refl; small = omega arith }, (3, omega arith, refl))
letter-is (suc (suc (suc (suc zero)))) low = (record { some = refl; small = omega arith }, (4, omega arith, refl))
letter-is (suc (suc (suc (suc (suc zero))))) low = (record { some = refl; small = omega arith }, (5, omega arith, refl))
letter-is (suc (suc (suc (suc (suc (suc zero)))))) low = (record { some = refl; small = omega arith }, (6, omega arith, refl))
letter-is (suc (suc (suc (suc (suc (suc (suc k))))))) low = absurd (omega (arith, low))

module _ (old new : Side) (path : List ℕ) (owned : Bool)
    (same : (letter : ℕ) → Contains single_letters letter → side_verdict old path owned letter ≡ side_verdict new path owned letter)
    (letters : ℕ) (small : letters < 2 ^ 7) where
  abbrev request : Request
  request = ForFile letters owned path

  -- what a side covers of all
  abbrev of : (Rule → Bool) → Side → ℕ
  of test side = whole owned path test side.rules

  abbrev SameAt : ℕ → Type 0
  SameAt k =
      SameBits (bit_at (of denies old) k) (bit_at (of (denies_aloud old.audit) old) k) (bit_at (of allows old) k) (bit_at (of (allows_aloud old.audit) old) k)
      (bit_at (of denies new) k) (bit_at (of (denies_aloud new.audit) new) k) (bit_at (of allows new) k) (bit_at (of (allows_aloud new.audit) new) k)

  bits : (k : ℕ) → k < 7 → SameAt k
  bits k low =
      let is = letter-is k low in
      single-bits owned path k is.0 old.audit new.audit old.rules new.rules (same (2 ^ k) is.1)

  -- masks of both sides
  abbrev masked : (Rule → Bool) → Side → ℕ
  masked test side = mask request test side.rules

  bit-of : (test : Rule → Bool) (side : Side) (i : ℕ) → bit_at (masked test side) i ≡ min (bit_at letters i) (bit_at (of test side) i)
  bit-of test side i = mask-bit owned path letters i test side.rules

  no-bit : (i : ℕ) → 7 ≤ i → bit_at letters i ≡ 0
  no-bit i high = bit_at_above letters 7 i small high

  denied-same : masked denies old ≡ masked denies new
  denied-same =
      same_from_bits (masked denies old) (masked denies new) (λ i.
      let one = bit-of denies old i in let other = bit-of denies new i in
      elim (cases_lt i 7) [
        | inl low ↦ let equal = (bits i low).denied in omega (arith, one, other, equal)
        | inr high ↦ let none = no-bit i high in omega (arith, one, other, none)
      ])

  loud-less : (side : Side) (i : ℕ) → bit_at (of (denies_aloud side.audit) side) i ≤ bit_at (of denies side) i
  loud-less side i = whole-less owned path (denies_aloud side.audit) denies (λ rule is. (and_parts (denies rule) (is_audited side.audit rule) is).0) side.rules i

  loud-same : masked (denies_aloud old.audit) old ≡ masked (denies_aloud new.audit) new
  loud-same =
      same_from_bits (masked (denies_aloud old.audit) old) (masked (denies_aloud new.audit) new) (λ i.
      let one = bit-of (denies_aloud old.audit) old i in let other = bit-of (denies_aloud new.audit) new i in
      elim (cases_lt i 7) [
        | inl low ↦ by i low one other (bit_at (of denies old) i) refl
        | inr high ↦ let none = no-bit i high in omega (arith, one, other, none)
      ])
    where
      by : (i : ℕ) → i < 7 → bit_at (masked (denies_aloud old.audit) old) i ≡ min (bit_at letters i) (bit_at (of (denies_aloud old.audit) old) i)
          → bit_at (masked (denies_aloud new.audit) new) i ≡ min (bit_at letters i) (bit_at (of (denies_aloud new.audit) new) i)
          → (d : ℕ) → bit_at (of denies old) i ≡ d → bit_at (masked (denies_aloud old.audit) old) i ≡ bit_at (masked (denies_aloud new.audit) new) i
      by i low one other zero is =
          let equal = (bits i low).denied in let less = loud-less old i in let few = loud-less new i in
          omega (arith, one, other, is, equal, less, few)
      by i low one other (suc zero) is = let equal = (bits i low).loud is in omega (arith, one, other, equal)
      by i low one other (suc (suc d)) is = absurd (let bit = bit_at-lt (of denies old) i in omega (arith, is, bit))

  -- what is allowed and not denied
  abbrev let_of : Side → ℕ
  let_of side = without (masked allows side) (masked denies side)

  let-same : let_of old ≡ let_of new
  let-same =
      same_from_bits (let_of old) (let_of new) (λ i. elim (cases_lt i 8) [
        | inr high ↦
            let one = without-above (masked allows old) (masked denies old) i high in
            let other = without-above (masked allows new) (masked denies new) i high in omega (arith, one, other)
        | inl byte ↦
            let one = without-bit (masked allows old) (masked denies old) i (mask-small owned path letters small denies old.rules) byte in
            let other = without-bit (masked allows new) (masked denies new) i (mask-small owned path letters small denies new.rules) byte in
            let g = bit-of allows old i in let h = bit-of allows new i in let d = bit-of denies old i in let e = bit-of denies new i in
            elim (cases_lt i 7) [
              | inr high ↦ let none = no-bit i high in omega (arith, one, other, g, h, none)
              | inl low ↦ by i low one other g h d e (bit_at (of denies old) i) refl
            ]
      ])
    where
      by : (i : ℕ) → i < 7 → bit_at (let_of old) i ≡ min (bit_at (masked allows old) i) (1 - bit_at (masked denies old) i)
          → bit_at (let_of new) i ≡ min (bit_at (masked allows new) i) (1 - bit_at (masked denies new) i)
          → bit_at (masked allows old) i ≡ min (bit_at letters i) (bit_at (of allows old) i) → bit_at (masked allows new) i ≡ min (bit_at letters i) (bit_at (of allows new) i)
          → bit_at (masked denies old) i ≡ min (bit_at letters i) (bit_at (of denies old) i) → bit_at (masked denies new) i ≡ min (bit_at letters i) (bit_at (of denies new) i)
          → (n : ℕ) → bit_at (of denies old) i ≡ n → bit_at (let_of old) i ≡ bit_at (let_of new) i
      by i low one other g h d e zero is = let equal = (bits i low).denied in let allowed = (bits i low).granted is in omega (arith, one, other, g, h, d, e, is, equal, allowed)
      by i low one other g h d e (suc zero) is =
          let equal = (bits i low).denied in let bit = bit_at-lt letters i in omega (arith, one, other, g, h, d, e, is, equal, bit)
      by i low one other g h d e (suc (suc n)) is = absurd (let bit = bit_at-lt (of denies old) i in omega (arith, is, bit))

  abbrev missing_of : Side → ℕ
  missing_of side = without letters (union (masked denies side) (let_of side))

  missing-same : missing_of old ≡ missing_of new
  missing-same = λ i. without letters (union (denied-same i) (let-same i))

  -- where nothing is denied or missing, what is audited is the same
  audited-same : masked denies old ≡ 0 → missing_of old ≡ 0 → masked (allows_aloud old.audit) old ≡ masked (allows_aloud new.audit) new
  audited-same none few =
      same_from_bits (masked (allows_aloud old.audit) old) (masked (allows_aloud new.audit) new) (λ i.
      let one = bit-of (allows_aloud old.audit) old i in let other = bit-of (allows_aloud new.audit) new i in
      elim (cases_lt i 7) [
        | inr high ↦ let nothing = no-bit i high in omega (arith, one, other, nothing)
        | inl low ↦ by i low one other (bit_at letters i) refl
      ])
    where
      by : (i : ℕ) → i < 7 → bit_at (masked (allows_aloud old.audit) old) i ≡ min (bit_at letters i) (bit_at (of (allows_aloud old.audit) old) i)
          → bit_at (masked (allows_aloud new.audit) new) i ≡ min (bit_at letters i) (bit_at (of (allows_aloud new.audit) new) i)
          → (n : ℕ) → bit_at letters i ≡ n → bit_at (masked (allows_aloud old.audit) old) i ≡ bit_at (masked (allows_aloud new.audit) new) i
      by i low one other zero is = omega (arith, one, other, is)
      by i low one other (suc zero) is =
          let byte : i < 8 = omega (arith, low) in
          let zeros = bit_at-zero i in
          let d = bit-of denies old i in
          let nothing = ap (λ n. bit_at n i) none in
          let undenied : bit_at (of denies old) i ≡ 0 = omega (arith, d, nothing, zeros, is) in
          let rest = ap (λ n. bit_at n i) few in
          let all = without-bit letters (union (masked denies old) (let_of old)) i
          (or_of_8 (masked denies old) (let_of old) (mask-small owned path letters small denies old.rules) (without-small (masked allows old) (masked denies old))) byte in
          let both = bit_at_or (masked denies old) (let_of old) i in
          let own = without-bit (masked allows old) (masked denies old) i (mask-small owned path letters small denies old.rules) byte in
          let g = bit-of allows old i in
          let allowed : bit_at (of allows old) i ≡ 1 =
          let bit = bit_at-lt (of allows old) i in omega (arith, rest, zeros, all, both, own, g, nothing, is, bit) in
          let equal = (bits i low).audited undenied allowed in
          omega (arith, one, other, equal)
      by i low one other (suc (suc n)) is = absurd (let bit = bit_at-lt letters i in omega (arith, is, bit))

  -- a verdict by its parts
  abbrev by_parts : Mediation → ℕ → ℕ → ℕ → ℕ → Verdict
  by_parts mediation denied loud missing audited =
      if not (denied == 0) then logged Deny Denied (union loud missing) else
      if not (missing == 0) then when_missing mediation missing else
      logged Allow Audit audited

  sets-same : (mediation : Mediation) → verdict mediation old.audit old.rules request ≡ verdict mediation new.audit new.rules request
  sets-same mediation = last (masked denies old == 0) refl (missing_of old == 0) refl ∙ (λ i. by_parts mediation (denied-same i) (loud-same i) (missing-same i) (masked (allows_aloud new.audit) new))
    where
      last : (b : Bool) → (masked denies old == 0) ≡ b → (c : Bool) → (missing_of old == 0) ≡ c
          → by_parts mediation (masked denies old) (masked (denies_aloud old.audit) old) (missing_of old) (masked (allows_aloud old.audit) old)
          ≡ by_parts mediation (masked denies old) (masked (denies_aloud old.audit) old) (missing_of old) (masked (allows_aloud new.audit) new)
      last false is c also = rw is refl
      last true is false also = rw (is, also) refl
      last true is true also =
          ap (by_parts mediation (masked denies old) (masked (denies_aloud old.audit) old) (missing_of old))
          (audited-same (eqb-true (masked denies old) 0 is) (eqb-true (missing_of old) 0 also))

pub letters-decide : LettersDecideSets
letters-decide old new path owned same mediation letters small = sets-same old new path owned same letters small mediation
