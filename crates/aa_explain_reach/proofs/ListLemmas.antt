-- Lists with others behind them.
use Rattle.std.proofs.Common.{◌≡◌, ◌⊎◌, ℕ, zero, suc, ◌≤◌, List, [], ◌∷◌, ◌++◌, length, refl, ap, subst, inl, inr, arith}
use Rattle.std.specs.Prelude.{Contains, Some, slice_get}
use Rattle.aa_glob_nfa.proofs.ListLemmas.{Contains-cons_cases, Contains-first, Contains-later}
use Rattle.aa_profile_data.proofs.PlaceLemmas.{Contains-from_get}

pub none-behind : {X : Type 0} (xs : List X) → xs ≡ xs ++ []
none-behind [] = refl
none-behind (x ∷ xs) = ap (λ l. x ∷ l) (none-behind xs)

-- what is among two lists is in one of them
pub append-cases : {X : Type 0} (xs ys : List X) (x : X) → Contains (xs ++ ys) x → Contains xs x ⊎ Contains ys x
append-cases [] ys x at = inr at
append-cases (y ∷ xs) ys x at = elim (Contains-cons_cases y (xs ++ ys) x at) [
  | inl same ↦ inl (subst (Contains (y ∷ xs)) same (Contains-first y xs))
  | inr more ↦ elim (append-cases xs ys x more) [ inl front ↦ inl (Contains-later y xs x front) | inr back ↦ inr back ]
]

-- what stands alone
pub one-only : {X : Type 0} (x y : X) → Contains (x ∷ []) y → x ≡ y
one-only x y at = elim (Contains-cons_cases x [] y at) [ inl same ↦ same | inr more ↦ absurd (omega (arith, more.1)) ]

-- what stands at a place of two lists stands there in the first, or in the second, behind the first
pub get-cases : {X : Type 0} (xs ys : List X) (k : ℕ) (x : X) → slice_get (xs ++ ys) k ≡ Some x
    → (slice_get xs k ≡ Some x) ⊎ ((length xs ≤ k) × Contains ys x)
get-cases [] ys k x at = inr (omega arith, Contains-from_get ys k x at)
get-cases (y ∷ xs) ys zero x at = inl at
get-cases (y ∷ xs) ys (suc k) x at = elim (get-cases xs ys k x at) [
  | inl front ↦ inl front
  | inr back ↦ inr (omega (arith, back.0), back.1)
]
