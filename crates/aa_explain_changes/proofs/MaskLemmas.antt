-- What rules say of several letters is what they say of each.
use Rattle.std.proofs.Common.{◌≡◌, ◌∙◌, ℕ, ◌-◌, ◌^◌, ◌<◌, ◌≤◌, Bool, true, false, if◌then◌else◌, List, [], ◌∷◌, ap, arith, inl, inr, max, min, refl, sym, w8}
use Rattle.std.specs.Int.{bit_at}
use Rattle.std.proofs.lemmas.Bool.{cases_lt}
use Rattle.std.proofs.lemmas.Nat.Bits.{bit_at-lt, bit_at-zero, bit_at_above, bit_at_and, bit_at_not, bit_at_or, same_from_bits}
use Rattle.std.proofs.lemmas.Nat.{and_comm, and_le_r}
use Rattle.aa_decide_rules.specs.Verdict.{applies, covered_by, covers, mask, with_covered, with_rule}
use Rattle.aa_profile_data.specs.Access.{common, union, without}
use Rattle.aa_profile_data.specs.Request.{ForFile}
use Rattle.aa_profile_data.specs.declared.profile.Rule.{Rule}

module _ (owned : Bool) (path : List ℕ) where
  -- what a rule covers of all, where it applies
  abbrev reach : Rule → ℕ
  reach rule = if applies (ForFile 0 owned path) rule then covered_by rule else 0

  -- what the rules that pass a test cover of all
  abbrev pub whole : (Rule → Bool) → List Rule → ℕ
  whole test [] = 0
  whole test (rule ∷ rules) = union (if test rule then reach rule else 0) (whole test rules)

  module _ (letters : ℕ) (i : ℕ) where
    -- a rule applies to a file whatever is asked of it
    covers-bit : (rule : Rule) → bit_at (covers (ForFile letters owned path) rule) i ≡ min (bit_at letters i) (bit_at (reach rule) i)
    covers-bit rule = by (applies (ForFile letters owned path) rule)
      where
        by : (b : Bool) → bit_at (if b then common letters (covered_by rule) else 0) i ≡ min (bit_at letters i) (bit_at (if b then covered_by rule else 0) i)
        by true = bit_at_and letters (covered_by rule) i
        by false = let none = bit_at-zero i in omega (arith, none)

    covered-bit : (test : Rule → Bool) (rules : List Rule) (set : ℕ)
        → bit_at (with_covered (ForFile letters owned path) test set rules) i ≡ max (bit_at set i) (min (bit_at letters i) (bit_at (whole test rules) i))
    covered-bit test [] set = let none = bit_at-zero i in omega (arith, none)
    covered-bit test (rule ∷ rules) set =
        let one = if test rule then reach rule else 0 in
        let rest = covered-bit test rules (with_rule (ForFile letters owned path) test set rule) in
        let both = bit_at_or one (whole test rules) i in
        let here = by (test rule) in
        omega (arith, rest, both, here)
      where
        by : (b : Bool) → bit_at (if b then union set (covers (ForFile letters owned path) rule) else set) i
            ≡ max (bit_at set i) (min (bit_at letters i) (bit_at (if b then reach rule else 0) i))
        by true = let more = bit_at_or set (covers (ForFile letters owned path) rule) i in let own = covers-bit rule in omega (arith, more, own)
        by false = let none = bit_at-zero i in omega (arith, none)

    -- a mask has those of the letters that the rules cover of all
    pub mask-bit : (test : Rule → Bool) (rules : List Rule) → bit_at (mask (ForFile letters owned path) test rules) i ≡ min (bit_at letters i) (bit_at (whole test rules) i)
    mask-bit test rules = let all = covered-bit test rules 0 in let none = bit_at-zero i in omega (arith, all, none)

  -- a stricter test covers no more
  pub whole-less : (test more : Rule → Bool) → ((rule : Rule) → test rule ≡ true → more rule ≡ true) → (rules : List Rule) (i : ℕ)
      → bit_at (whole test rules) i ≤ bit_at (whole more rules) i
  whole-less test more within [] i = omega arith
  whole-less test more within (rule ∷ rules) i =
      let one = bit_at_or (if test rule then reach rule else 0) (whole test rules) i in
      let other = bit_at_or (if more rule then reach rule else 0) (whole more rules) i in
      let rest = whole-less test more within rules i in
      let here = by (test rule) refl (more rule) refl in
      omega (arith, one, other, rest, here)
    where
      by : (b : Bool) → test rule ≡ b → (c : Bool) → more rule ≡ c
          → bit_at (if b then reach rule else 0) i ≤ bit_at (if c then reach rule else 0) i
      by false is c also = let none = bit_at-zero i in omega (arith, none)
      by true is true also = omega arith
      by true is false also = absurd (let wrong : true ≡ false = sym (within rule is) ∙ also in cc)

-- the bits of a set without those of another, both of a byte
pub without-bit : (a b i : ℕ) → b < 2 ^ 8 → i < 8 → bit_at (without a b) i ≡ min (bit_at a i) (1 - bit_at b i)
without-bit a b i small low = bit_at_and a (2 ^ 8 - 1 - b) i ∙ ap (min (bit_at a i)) (bit_at_not w8 b i small low)

pub without-above : (a b i : ℕ) → 8 ≤ i → bit_at (without a b) i ≡ 0
without-above a b i high =
    let small : 2 ^ 8 - 1 - b < 2 ^ 8 = omega arith in
    let none = bit_at_above (2 ^ 8 - 1 - b) 8 i small high in
    let both = bit_at_and a (2 ^ 8 - 1 - b) i in
    omega (arith, none, both)

-- a set of letters that are all in another is nothing without that
pub without-all : (a b : ℕ) → b < 2 ^ 8 → ((i : ℕ) → i < 8 → bit_at a i ≤ bit_at b i) → without a b ≡ 0
without-all a b small less =
    same_from_bits (without a b) 0 (λ i. let none = bit_at-zero i in elim (cases_lt i 8) [
      | inl low ↦ let own = without-bit a b i small low in let few = less i low in let one = bit_at-lt a i in omega (arith, none, own, few, one)
      | inr high ↦ let own = without-above a b i high in omega (arith, none, own)
    ])

-- and without nothing it is itself
pub without-none : (a : ℕ) → a < 2 ^ 8 → without a 0 ≡ a
without-none a small =
    same_from_bits (without a 0) a (λ i. let none = bit_at-zero i in elim (cases_lt i 8) [
      | inl low ↦ let own = without-bit a 0 i (omega arith) low in let one = bit_at-lt a i in omega (arith, none, own, one)
      | inr high ↦ let own = without-above a 0 i high in let above = bit_at_above a 8 i small high in omega (arith, own, above)
    ])

pub without-small : (a b : ℕ) → without a b < 2 ^ 8
without-small a b = let less = and_le_r a (2 ^ 8 - 1 - b) in omega (arith, less)

module _ (owned : Bool) (path : List ℕ) (letters : ℕ) where
  -- a mask is what is common to the letters and to what the rules cover of all
  pub mask-common : (test : Rule → Bool) (rules : List Rule) → mask (ForFile letters owned path) test rules ≡ common letters (whole owned path test rules)
  mask-common test rules =
      same_from_bits (mask (ForFile letters owned path) test rules) (common letters (whole owned path test rules))
      (λ i. mask-bit owned path letters i test rules ∙ sym (bit_at_and letters (whole owned path test rules) i))

  pub mask-small : letters < 2 ^ 7 → (test : Rule → Bool) (rules : List Rule) → mask (ForFile letters owned path) test rules < 2 ^ 8
  mask-small small test rules =
      let less = and_le_r (whole owned path test rules) letters in
      let turned = mask-common test rules ∙ and_comm letters (whole owned path test rules) in
      omega (arith, small, less, turned)
