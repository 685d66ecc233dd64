-- The order of tallies that are sorted by how often they came.
use Rattle.std.proofs.Common.{◌≡◌, ℕ, zero, suc, ◌+◌, ◌<◌, ◌≤◌, ◌==◌, ◌&&◌, ◌||◌, ◌++◌, not, Bool, true, false, List, [], ◌∷◌, length, map, take, refl, sym, ap, ◌∙◌, arith}
use Rattle.std.specs.Prelude.{filter, nat_lt, slice_get, slice_index_or}
use Rattle.std.specs.Ordering.{is_lt, nat_cmp}
use Rattle.std.specs.List.Sorted.{IsPermutation, IsSortedBy, IsStableBy, ties}
use Rattle.std.specs.Cmp.{IsStrictWeakOrder}
use Rattle.std.specs.List.{list_any}
use Rattle.std.proofs.lemmas.Bool.{eqb-true, or_parts}
use Rattle.std.proofs.lemmas.Cmp.{nat_cmp_total}
use Rattle.std.proofs.lemmas.List.{get_or-map, length-map}
use Rattle.std.proofs.lemmas.List.Sorted.{IsPermutation-map, IsStrictWeakOrder-flip, list_any-IsPermutation, ranks_by}
use Rattle.std.proofs.lemmas.Bool.Decides.{nat_tests}
use Rattle.aatry_requests.specs.Order.{IsMostAskedFirst, came}
use Rattle.aatry_requests.specs.Tallies.{Tally}
use Rattle.aatry_requests.specs.code.TallyAt.{tally_at}

-- one tally more
take-next : (tallies : List Tally) (place : ℕ) → take (suc place) tallies ≡ take place tallies ++ tally_at (slice_get tallies place)
take-next [] zero = refl
take-next [] (suc place) = refl
take-next (tally ∷ tallies) zero = refl
take-next (tally ∷ tallies) (suc place) = ap (λ more. tally ∷ more) (take-next tallies place)

pub take-step : (tallies : List Tally) (place : ℕ) → take (place + 1) tallies ≡ take place tallies ++ tally_at (slice_get tallies place)
take-step tallies place = let next : place + 1 ≡ suc place = omega arith in ap (λ n. take n tallies) next ∙ take-next tallies place

-- what tests that agree leave is the same
filter-same : {P : Type 0} (one other : P → Bool) → ((x : P) → one x ≡ other x) → (xs : List P) → filter one xs ≡ filter other xs
filter-same one other same [] = refl
filter-same one other same (x ∷ xs) = by (one x) refl (filter-same one other same xs)
  where
    by : (passes : Bool) → one x ≡ passes → filter one xs ≡ filter other xs → filter one (x ∷ xs) ≡ filter other (x ∷ xs)
    by true e rest = let too : other x ≡ true = sym (same x) ∙ e in rw (e, too) (ap (λ more. x ∷ more) rest)
    by false e rest = let too : other x ≡ false = sym (same x) ∙ e in rw (e, too) rest

-- where none passes nothing is left
filter-none : {P : Type 0} (test : P → Bool) (xs : List P) → list_any test xs ≡ false → filter test xs ≡ []
filter-none test [] none = refl
filter-none test (x ∷ xs) none = let parts = or_parts (test x) (list_any test xs) none in rw parts.0 (filter-none test xs parts.1)

-- one that passes, where some does
passing : {P : Type 0} (test : P → Bool) (xs : List P) → list_any test xs ≡ true → (x : P) × (test x ≡ true)
passing test [] some = absurd (cc (some))
passing {P = P} test (x ∷ xs) some = by (test x) refl (passing test xs)
  where
    by : (passes : Bool) → test x ≡ passes → (list_any test xs ≡ true → (y : P) × (test y ≡ true)) → (y : P) × (test y ≡ true)
    by true e behind = (x, e)
    by false e behind = behind (sym (ap (λ b. b || list_any test xs) e) ∙ some)

-- neither number is less than the other exactly where they are the same
tie-is : (x y : ℕ) → (not (is_lt (nat_cmp y x)) && not (is_lt (nat_cmp x y))) ≡ (y == x)
tie-is x y = by (nat_lt y x) refl (nat_lt x y) refl
  where
    by : (less : Bool) → nat_lt y x ≡ less → (more : Bool) → nat_lt x y ≡ more → (not (is_lt (nat_cmp y x)) && not (is_lt (nat_cmp x y))) ≡ (y == x)
    by true a more b = let other : (y == x) ≡ false = grind (arith, nat_tests, a) in rw (a, other) refl
    by false a true b = let other : (y == x) ≡ false = grind (arith, nat_tests, b) in rw (a, b, other) refl
    by false a false b =
        let same : (y == x) ≡ true = grind (arith, nat_tests, a, b) in
        let turned : (x == y) ≡ true = grind (arith, nat_tests, a, b) in
        rw (a, b, same, turned) refl

module _ {P : Type 0} (tally : P → Tally) where
  -- one stands before another: it came more often
  abbrev pub came_more : P → P → Bool
  came_more one other = is_lt (nat_cmp (tally other).times (tally one).times)

  falling : (one other : P) → came_more one other ≡ false → (tally one).times ≤ (tally other).times
  falling one other h = by (nat_lt (tally other).times (tally one).times) refl
    where
      by : (less : Bool) → nat_lt (tally other).times (tally one).times ≡ less → (tally one).times ≤ (tally other).times
      by true e = absurd (cc (h, e))
      by false e = grind (arith, nat_tests, e)

  -- those that tie with one came as often
  tied : (x p : P) → ties came_more x p ≡ ((tally p).times == (tally x).times)
  tied x p = tie-is (tally x).times (tally p).times

  came-map : (times : ℕ) (ps : List P) → came times (map tally ps) ≡ map tally (filter (λ p. (tally p).times == times) ps)
  came-map times [] = refl
  came-map times (p ∷ ps) = by ((tally p).times == times) refl (came-map times ps)
    where
      by : (passes : Bool) → ((tally p).times == times) ≡ passes
          → came times (map tally ps) ≡ map tally (filter (λ p. (tally p).times == times) ps)
          → came times (map tally (p ∷ ps)) ≡ map tally (filter (λ p. (tally p).times == times) (p ∷ ps))
      by true e rest = rw e (ap (λ more. tally p ∷ more) rest)
      by false e rest = rw e rest

  -- a stable sort keeps the order of those that came so often
  kept : (times : ℕ) (ps qs : List P) → IsPermutation ps qs → IsStableBy came_more ps qs
      → filter (λ p. (tally p).times == times) qs ≡ filter (λ p. (tally p).times == times) ps
  kept times ps qs same stable = by (list_any (λ p. (tally p).times == times) ps) refl
    where
      by : (some : Bool) → list_any (λ p. (tally p).times == times) ps ≡ some → filter (λ p. (tally p).times == times) qs ≡ filter (λ p. (tally p).times == times) ps
      by false e =
          filter-none (λ p. (tally p).times == times) qs (sym (list_any-IsPermutation (λ p. (tally p).times == times) ps qs same) ∙ e)
          ∙ sym (filter-none (λ p. (tally p).times == times) ps e)
      by true e =
          let (x, is) = passing (λ p. (tally p).times == times) ps e in
          let came_so = eqb-true (tally x).times times is in
          let test : (p : P) → ((tally p).times == times) ≡ ties came_more x p =
          λ p. ap (λ n. (tally p).times == n) (sym came_so) ∙ sym (tied x p) in
          filter-same (λ p. (tally p).times == times) (ties came_more x) test qs ∙ stable x
          ∙ sym (filter-same (λ p. (tally p).times == times) (ties came_more x) test ps)

  falls : (qs : List P) → IsSortedBy came_more qs → (place : ℕ) (other : Tally) → place + 1 < length (map tally qs)
      → (slice_index_or (map tally qs) (place + 1) other).times ≤ (slice_index_or (map tally qs) place other).times
  falls [] sorted place other within = absurd (omega (arith, within))
  falls (q ∷ qs) sorted place other within =
      let size : length (map tally (q ∷ qs)) ≡ length (q ∷ qs) = length-map (q ∷ qs) tally in
      let next = get_or-map tally (q ∷ qs) (place + 1) q other (omega (arith, within, size)) in
      let this = get_or-map tally (q ∷ qs) place q other (omega (arith, within, size)) in
      let less = falling (slice_index_or (q ∷ qs) (place + 1) q) (slice_index_or (q ∷ qs) place q) (sorted place q (omega arith) (omega (arith, within, size))) in
      omega (arith, less, ap (λ t. t.times) next, ap (λ t. t.times) this)

  -- what a stable sort leaves stands in that order
  pub most-asked : (ps qs : List P) → IsPermutation ps qs → IsSortedBy came_more qs → IsStableBy came_more ps qs → IsMostAskedFirst (map tally ps) (map tally qs)
  most-asked ps qs same sorted stable = record {
    same = IsPermutation-map tally ps qs same;
    falls = falls qs sorted;
    keeps = λ times. came-map times qs ∙ ap (map tally) (kept times ps qs same stable) ∙ sym (came-map times ps);
  }

  -- the test is an order
  pub came_more-order : IsStrictWeakOrder came_more
  came_more-order = IsStrictWeakOrder-flip (λ x y. is_lt (nat_cmp (tally x).times (tally y).times)) (ranks_by nat_cmp_total (λ x. (tally x).times))
