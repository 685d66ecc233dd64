-- What stands at the indexes of lists.
use Rattle.std.proofs.Common.{◌≡◌, ℕ, Bool, true, false, nat_eq, List, [], ◌∷◌, ◌++◌, ◌<◌, ◌≤◌, zero, suc, length, slice_get, take, arith, refl, sym, ap, ◌⊎◌, inl, inr}
use Rattle.std.specs.Prelude.{None, Some}
use Rattle.std.specs.List.{list_any}
use Rattle.std.proofs.lemmas.Map.Keys.{any_passes_from_place}
use Rattle.std.proofs.Math.Seq.{take-length}
use Rattle.aa_text_variables.proofs.TestLemmas.{same-from_test, same-test}

-- an index behind all has no element
pub past-none : {X : Type 0} (xs : List X) (at : ℕ) → None ≡ slice_get xs at → length xs ≤ at
past-none [] at h = omega arith
past-none (x ∷ xs) zero h = absurd cc
past-none (x ∷ xs) (suc at) h = let rest : length xs ≤ at = past-none xs at h in omega arith

-- where a number stands that is among the first ones
pub index-among_first : (order : List ℕ) (count index : ℕ) → list_any (nat_eq index) (take count order) ≡ true
    → (at : ℕ) × (at < count) × (slice_get order at ≡ Some index)
index-among_first order zero index h = absurd (cc)
index-among_first [] (suc count) index h = absurd (cc)
index-among_first (x ∷ xs) (suc count) index h = by (nat_eq index x) refl h (index-among_first xs count index)
  where
    by : (b : Bool) → nat_eq index x ≡ b → list_any (nat_eq index) (take (suc count) (x ∷ xs)) ≡ true
        → (list_any (nat_eq index) (take count xs) ≡ true → (at : ℕ) × (at < count) × (slice_get xs at ≡ Some index))
        → (at : ℕ) × (at < suc count) × (slice_get (x ∷ xs) at ≡ Some index)
    by true b h rest = (zero, omega arith, ap Some (sym (same-from_test index x b)))
    by false b h rest =
        let found = rest (rw b at h) in
        (suc found.0, omega (arith, found.1), found.2)

-- a listed number has an index
pub index-found : (ks : List ℕ) (q : ℕ) → list_any (nat_eq q) ks ≡ true → (k : ℕ) × (slice_get ks k ≡ Some q)
index-found ks q h = let found = index-among_first ks (length ks) q (rw (take-length ks) h) in (found.0, found.2)

-- a number with an index is listed
pub listed : (ks : List ℕ) (k q : ℕ) → slice_get ks k ≡ Some q → list_any (nat_eq q) ks ≡ true
listed ks k q h = any_passes_from_place (nat_eq q) ks k q h (same-test q)

-- an element of a list with one more behind it is in the list, or is that one
pub slice_get-push : {X : Type 0} (xs : List X) (x : X) (at : ℕ) (y : X) → slice_get (xs ++ x ∷ []) at ≡ Some y
    → ((at < length xs) × (slice_get xs at ≡ Some y)) ⊎ ((at ≡ length xs) × (x ≡ y))
slice_get-push [] x zero y h = inr (refl, cc)
slice_get-push [] x (suc at) y h = absurd (cc)
slice_get-push (z ∷ zs) x zero y h = inl (omega arith, h)
slice_get-push (z ∷ zs) x (suc at) y h = elim (slice_get-push zs x at y h) [
  | inl there ↦ inl (omega (arith, there.0), there.1)
  | inr last ↦ inr (omega (arith, last.0), last.1)
]

-- an element of the first of two lists
pub slice_get-front : {X : Type 0} (xs ys : List X) (at : ℕ) → at < length xs → slice_get (xs ++ ys) at ≡ slice_get xs at
slice_get-front [] ys at within = absurd (omega arith)
slice_get-front (x ∷ xs) ys zero within = refl
slice_get-front (x ∷ xs) ys (suc at) within = slice_get-front xs ys at (omega arith)
