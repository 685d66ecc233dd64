-- Counts of steps.
use Rattle.std.proofs.Common.{◌≡◌, ℕ, zero, suc, ◌+◌, min, sym, ◌∙◌, ap, arith}
use Rattle.aa_glob_nfa.specs.Steps.{counted, most_steps}

stopped_twice : (top a m n : ℕ) → min (min (a + m) top + n) top ≡ min (a + (m + n)) top
stopped_twice top a m n = omega arith

-- steps that are added one behind the other
pub counted-counted : (old m n : ℕ) → counted (counted old m) n ≡ counted old (m + n)
counted-counted old zero n = let none : 0 + n ≡ n = omega arith in ap (counted old) (sym none)
counted-counted old (suc m) zero = let none : suc m + 0 ≡ suc m = omega arith in ap (counted old) (sym none)
counted-counted old (suc m) (suc n) =
    let all : suc m + suc n ≡ suc (m + suc n) = omega arith in
    stopped_twice most_steps old (suc m) (suc n) ∙ ap (λ x. min (old + x) most_steps) all ∙ ap (counted old) (sym all)
