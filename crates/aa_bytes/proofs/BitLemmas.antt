-- What setting, clearing and testing a bit of some words, or of a byte, does.
use Rattle.std.proofs.Common.{◌≡◌, ◌≢◌, ℕ, ◌*◌, ◌/◌, ◌%◌, ◌^◌, ◌<◌, Bool, true, false, not, cond, ◌==◌, ◌||◌, ◌&&◌, List, length, get_or, set, refl, sym, ◌∙◌, ap, inl, inr, arith, get_or-set_same, get_or-set_other, eq-eqb, ne_eqb, w8, w64, nat_eq}
use Rattle.std.proofs.lemmas.Bool.{cases_eq}
use Rattle.std.proofs.lemmas.Nat.{one_shl, pow_pos}
use Rattle.std.proofs.lemmas.Nat.Bits.{bit_at_set_same, bit_at_set_other, bit_at_clear_same, bit_at_clear_other, and_pow}
use Rattle.std.specs.Prelude.{bit_and, bit_or}
use Rattle.std.specs.Int.{bit_at, bit_not}
use Rattle.aa_bytes.specs.Bits.{byte_has_bit, has_bit}

-- the test of one bit of a word
pub bit_is_set : (bits word k : ℕ) → k < bits → not (nat_eq (bit_and word (1 * 2 ^ k % 2 ^ bits)) 0) ≡ (bit_at word k == 1)
bit_is_set bits word k h =
    let e : bit_and word (1 * 2 ^ k % 2 ^ bits) ≡ bit_at word k * 2 ^ k = ap (bit_and word) (one_shl k bits h) ∙ and_pow word k in
    let b : ℕ = bit_at word k in
    let small : b < 2 = omega arith in
    elim (cases_eq b 1) [
      | inl one ↦
          let big : 0 < bit_and word (1 * 2 ^ k % 2 ^ bits) = rw (e, one) (omega (arith, pow_pos k)) in
          ap not (ne_eqb _ 0 (omega arith)) ∙ sym (eq-eqb b 1 one)
      | inr other ↦
          let none : b ≡ 0 = omega arith in
          ap not (eq-eqb _ 0 (rw (e, none) (omega arith))) ∙ sym (ne_eqb b 1 other)
    ]

-- what the bits are where a word gets another value, of which the bit of a number alone may differ
turned : (words : List ℕ) (n v : ℕ) (wanted : Bool) → n < 64 * length words → (bit_at v (n % 64) == 1) ≡ wanted
    → ((i : ℕ) → i < 64 → i ≢ n % 64 → bit_at v i ≡ bit_at (get_or words (n / 64) 0) i)
    → (other : ℕ) → has_bit (set words (n / 64) v) other ≡ cond (other == n) wanted (has_bit words other)
turned words n v wanted within is others other =
    let word_in : n / 64 < length words = omega arith in
    elim (cases_eq other n) [
      | inl same ↦
          ap (has_bit (set words (n / 64) v)) same
          ∙ ap (λ x. bit_at x (n % 64) == 1) (get_or-set_same words (n / 64) v 0 word_in)
          ∙ is
          ∙ sym (ap (λ b. cond b wanted (has_bit words other)) (eq-eqb other n same))
      | inr differs ↦
          (elim (cases_eq (other / 64) (n / 64)) as (λ _. has_bit (set words (n / 64) v) other ≡ has_bit words other) [
            | inl row ↦
                ap (λ x. bit_at (get_or (set words (n / 64) v) x 0) (other % 64) == 1) row
                ∙ ap (λ x. bit_at x (other % 64) == 1) (get_or-set_same words (n / 64) v 0 word_in)
                ∙ ap (λ x. x == 1) (others (other % 64) (omega arith) (omega arith))
                ∙ ap (λ x. bit_at (get_or words x 0) (other % 64) == 1) (sym row)
            | inr apart ↦ ap (λ x. bit_at x (other % 64) == 1) (get_or-set_other words (n / 64) (other / 64) v 0 apart)
          ])
          ∙ sym (ap (λ b. cond b wanted (has_bit words other)) (ne_eqb other n differs))
    ]

set_by_cases : (b x : Bool) → cond b true x ≡ (b || x)
set_by_cases true x = refl
set_by_cases false x = refl

cleared_by_cases : (b x : Bool) → cond b false x ≡ (not b && x)
cleared_by_cases true x = refl
cleared_by_cases false x = refl

-- what the bits of a byte are with one more
pub byte_has_bit-set : (byte k : ℕ) → k < 8 → (other : ℕ) → byte_has_bit (bit_or byte (1 * 2 ^ k % 2 ^ 8)) other ≡ (other == k || byte_has_bit byte other)
byte_has_bit-set byte k small other =
    elim (cases_eq other k) [
      | inl same ↦
          ap (λ n. byte_has_bit (bit_or byte (1 * 2 ^ k % 2 ^ 8)) n) same
          ∙ eq-eqb _ 1 (bit_at_set_same w8 byte k small)
          ∙ sym (ap (λ b. b || byte_has_bit byte other) (eq-eqb other k same))
      | inr differs ↦
          ap (λ b. b == 1) (bit_at_set_other w8 byte k small other differs)
          ∙ sym (ap (λ b. b || byte_has_bit byte other) (ne_eqb other k differs))
    ]

pub has_bit-set : (words : List ℕ) (n : ℕ) → n < 64 * length words → (other : ℕ)
    → has_bit (set words (n / 64) (bit_or (get_or words (n / 64) 0) (1 * 2 ^ (n % 64) % 2 ^ 64))) other ≡ (other == n || has_bit words other)
has_bit-set words n within other =
    let low : n % 64 < 64 = omega arith in
    turned words n _ true within
    (eq-eqb _ 1 (bit_at_set_same w64 (get_or words (n / 64) 0) (n % 64) low))
    (λ i h differs. bit_at_set_other w64 (get_or words (n / 64) 0) (n % 64) low i differs) other
    ∙ set_by_cases (other == n) (has_bit words other)

pub has_bit-cleared : (words : List ℕ) (n : ℕ) → n < 64 * length words → (other : ℕ)
    → has_bit (set words (n / 64) (bit_and (get_or words (n / 64) 0) (bit_not w64 (1 * 2 ^ (n % 64) % 2 ^ 64)))) other ≡ (not (other == n) && has_bit words other)
has_bit-cleared words n within other =
    let low : n % 64 < 64 = omega arith in
    turned words n _ false within
    (ap (λ x. x == 1) (bit_at_clear_same w64 (get_or words (n / 64) 0) (n % 64) low))
    (λ i h differs. bit_at_clear_other w64 (get_or words (n / 64) 0) (n % 64) low i h differs) other
    ∙ cleared_by_cases (other == n) (has_bit words other)
