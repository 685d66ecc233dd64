-- Numbers in rising order.
use Rattle.std.proofs.Common.{◌≡◌, ◌↔◌, ℕ, suc, ◌<◌, List, [], ◌∷◌, refl, sym, ap₂, subst, inl, inr, arith}
use Rattle.std.specs.Prelude.{AllPairs, Contains}
use Rattle.aa_glob_nfa.proofs.ListLemmas.{Contains-cons_cases, Contains-first, Contains-later}

-- each number is below all later ones
abbrev pub Rise : List ℕ → Type 0
Rise xs = AllPairs (λ q r. q < r) xs

rise-tail : (x : ℕ) (xs : List ℕ) → Rise (x ∷ xs) → Rise xs
rise-tail x xs rise i j d before within = rise (suc i) (suc j) d (omega (arith, before)) (omega (arith, within))

rise-head : (x : ℕ) (xs : List ℕ) → Rise (x ∷ xs) → (r : ℕ) → Contains xs r → x < r
rise-head x xs rise r at = subst (λ z. x < z) at.2 (rise 0 (suc at.0) r (omega arith) (omega (arith, at.1)))

-- the least of both is the same
same-head : (x y : ℕ) (xs ys : List ℕ) → Rise (x ∷ xs) → Rise (y ∷ ys) → Contains (y ∷ ys) x → Contains (x ∷ xs) y → x ≡ y
same-head x y xs ys first second there back = elim (Contains-cons_cases y ys x there) [
  | inl same ↦ sym same
  | inr later ↦ elim (Contains-cons_cases x xs y back) [
    | inl same ↦ same
    | inr again ↦ absurd (let one = rise-head y ys second x later in let two = rise-head x xs first y again in omega (arith, one, two))
  ]
]

-- what stands behind the least of one stands behind that of the other
same-tail : (x y : ℕ) (xs ys : List ℕ) → x ≡ y → Rise (x ∷ xs) → ((r : ℕ) → Contains (x ∷ xs) r → Contains (y ∷ ys) r) → (r : ℕ) → Contains xs r → Contains ys r
same-tail x y xs ys heads rise there r at = elim (Contains-cons_cases y ys r (there r (Contains-later x xs r at))) [
  | inl same ↦ absurd (let below = rise-head x xs rise r at in omega (arith, below, heads, same))
  | inr later ↦ later
]

-- two lists in rising order that have the same numbers are the same
pub rise-same : (xs ys : List ℕ) → Rise xs → Rise ys → ((r : ℕ) → Contains xs r ↔ Contains ys r) → xs ≡ ys
rise-same [] [] first second same = refl
rise-same [] (y ∷ ys) first second same = absurd (let none = (same y).1 (Contains-first y ys) in omega (arith, none.1))
rise-same (x ∷ xs) [] first second same = absurd (let none = (same x).0 (Contains-first x xs) in omega (arith, none.1))
rise-same (x ∷ xs) (y ∷ ys) first second same =
    let heads = same-head x y xs ys first second ((same x).0 (Contains-first x xs)) ((same y).1 (Contains-first y ys)) in
    ap₂ (λ z zs. z ∷ zs) heads (rise-same xs ys (rise-tail x xs first) (rise-tail y ys second) (λ r. (
      same-tail x y xs ys heads first (λ z. (same z).0) r,
      same-tail y x ys xs (sym heads) second (λ z. (same z).1) r,
    )))
