-- The bits of a number determine it.
use Rattle.std.proofs.Common.{◌≡◌, ℕ, zero, suc, ◌+◌, ◌*◌, ◌/◌, ◌%◌, ◌^◌, ◌<◌, ◌==◌, ◌∙◌, length, refl, ap, ap₂, arith}
use Rattle.std.proofs.lemmas.Grind.{pow_more}
use Rattle.aa_glob_syntax.specs.Bits.{bit, bits_of, number_of}

-- there are as many as were asked for
pub length-bits : (len bits : ℕ) → length (bits_of len bits) ≡ len
length-bits zero bits = refl
length-bits (suc len) bits = ap suc (length-bits len (bits / 2))

-- a number less than a power of two is determined by its bits
few-half : (len bits : ℕ) → bits < 2 ^ (len + 1) → bits / 2 < 2 ^ len
few-half len bits few = let twice = pow_more 2 len in omega (arith, few, twice)

pub number-of-bits : (len bits : ℕ) → bits < 2 ^ len → number_of (bits_of len bits) ≡ bits
number-of-bits zero bits few = let few' : bits < 1 = few in omega arith
number-of-bits (suc len) bits few =
    let more : suc len ≡ len + 1 = omega arith in
    let rest = number-of-bits len (bits / 2) (few-half len bits (rw more at few)) in
    let last : bit (bits % 2 == 1) ≡ bits % 2 = by_test (bits % 2) (omega arith) in
    ap₂ (λ n m. n * 2 + m) rest last ∙ omega arith
  where
    by_test : (n : ℕ) → n < 2 → bit (n == 1) ≡ n
    by_test zero h = refl
    by_test (suc zero) h = refl
    by_test (suc (suc n)) h = absurd (omega arith)
