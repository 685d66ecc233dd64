-- Bits in one number.
use Rattle.std.proofs.Common.{◌≡◌, ◌≢◌, ◌∙◌, ℕ, zero, suc, ◌+◌, ◌/◌, ◌%◌, ◌<◌, Bool, true, ◌==◌, List, ◌∷◌, length, refl, sym, ap, ap₂, arith}
use Rattle.aa_glob_syntax.specs.Bits.{bits_of}
use Rattle.aa_glob_syntax.specs.OpenGroups.{outer, with_innermost}

-- the topmost one
pub bits-top : (len bits : ℕ) (s : List Bool) → bits_of len bits ≡ s → 0 < length s → s ≡ (bits % 2 == 1) ∷ outer s
bits-top zero bits s is some = let none : 0 ≡ length s = ap length is in absurd (omega (arith, none, some))
bits-top (suc len) bits s is some = sym is ∙ ap (λ (bs : List Bool). (bits % 2 == 1) ∷ outer bs) is

-- the topmost one is set
pub bits-set : (len bits : ℕ) → bits % 2 ≢ 1 → bits_of len (bits + 1) ≡ with_innermost (λ top. true) (bits_of len bits)
bits-set zero bits even = refl
bits-set (suc len) bits even =
    let odd : (bits + 1) % 2 ≡ 1 = omega arith in
    let half : (bits + 1) / 2 ≡ bits / 2 = omega arith in
    ap₂ (λ b n. b ∷ bits_of len n) (ap (λ n. n == 1) odd) half
