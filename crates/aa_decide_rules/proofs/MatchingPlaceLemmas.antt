-- The places of the rules that match a path, found one by one, are all of them, and rise.
use Rattle.std.proofs.Common.{◌≡◌, ℕ, zero, suc, ◌+◌, true, List, [], ◌∷◌, arith, refl, sym, subst, inl, inr}
use Rattle.std.specs.List.{Contains}
use Rattle.std.specs.List.Sorted.{IsStrictlyIncreasing}
use Rattle.std.proofs.lemmas.Bool.{cases_Bool}
use Rattle.aa_profile_data.proofs.PickedLemmas.{Contains-behind, Contains-first, Contains-split, Rises, Rises-lower, Rises-to}
use Rattle.aa_profile_data.specs.Matching.{AreMatchingRules, is_matching, IsMatchingAt}
use Rattle.aa_profile_data.specs.declared.profile.Rule.{Rule}
use Rattle.aa_decide_rules.specs.code.MatchingPlaces.{matching_from}

-- a place that was found is that of a rule that matches
abbrev Stands : List ℕ → ℕ → List Rule → ℕ → Type 0
Stands path first rules place = (at : ℕ) × (place ≡ first + at) × IsMatchingAt rules path at

stands-behind : (path : List ℕ) (first : ℕ) (rule : Rule) (rules : List Rule) (place : ℕ) → Stands path (first + 1) rules place → Stands path first (rule ∷ rules) place
stands-behind path first rule rules place (at, is, found) = (suc at, omega arith, found)

found-stands : (path : List ℕ) (first : ℕ) (rules : List Rule) (place : ℕ) → Contains (matching_from path first rules) place → Stands path first rules place
found-stands path first [] place (k, within, is) = absurd (omega arith)
found-stands path first (rule ∷ rules) place there = elim (cases_Bool (is_matching path rule)) [
  | inl matches ↦
      let all : Contains (first ∷ matching_from path (first + 1) rules) place = rw (matching_from, matches) at there in
      elim (Contains-split first (matching_from path (first + 1) rules) place all) [
        | inl here ↦ (0, (omega arith), (rule, refl, matches))
        | inr later ↦ stands-behind path first rule rules place (found-stands path (first + 1) rules place later)
      ]
  | inr other ↦
      let later : Contains (matching_from path (first + 1) rules) place = rw (matching_from, other) at there in
      stands-behind path first rule rules place (found-stands path (first + 1) rules place later)
]

-- the place of each rule that matches was found
stands-found : (path : List ℕ) (first : ℕ) (rules : List Rule) (at : ℕ) → IsMatchingAt rules path at → Contains (matching_from path first rules) (first + at)
stands-found path first [] at (rule, is, matches) = absurd (cc)
stands-found path first (one ∷ rules) zero (rule, is, matches) =
    let same : one ≡ rule = cc in
    let here : is_matching path one ≡ true = rw same matches in
    let plain : first + 0 ≡ first = omega arith in
    rw (here, plain) (Contains-first first (matching_from path (first + 1) rules))
stands-found path first (one ∷ rules) (suc at) found =
    let plain : (first + 1) + at ≡ first + suc at = omega arith in
    let later : Contains (matching_from path (first + 1) rules) (first + suc at) = subst (Contains (matching_from path (first + 1) rules)) plain (stands-found path (first + 1) rules at found) in
    elim (cases_Bool (is_matching path one)) [
      | inl matches ↦ rw matches (Contains-behind first (matching_from path (first + 1) rules) (first + suc at) later)
      | inr other ↦ rw other later
    ]

found-rise : (path : List ℕ) (first : ℕ) (rules : List Rule) → Rises first (matching_from path first rules)
found-rise path first [] = tt
found-rise path first (rule ∷ rules) = elim (cases_Bool (is_matching path rule)) [
  | inl matches ↦ rw matches (omega arith, found-rise path (first + 1) rules)
  | inr other ↦ rw other (Rises-lower first (first + 1) (matching_from path (first + 1) rules) (omega arith) (found-rise path (first + 1) rules))
]

pub all-found : (rules : List Rule) (path places : List ℕ) → places ≡ matching_from path 0 rules → AreMatchingRules rules path places
all-found rules path places is place = (sound, complete)
  where
    sound : Contains places place → IsMatchingAt rules path place
    sound there =
        let found = found-stands path 0 rules place (subst (λ l. Contains l place) is there) in
        let same : found.0 ≡ place = let moved = found.1 in omega arith in
        subst (IsMatchingAt rules path) same found.2

    complete : IsMatchingAt rules path place → Contains places place
    complete matching =
        let plain : 0 + place ≡ place = omega arith in
        subst (λ l. Contains l place) (sym is) (subst (Contains (matching_from path 0 rules)) plain (stands-found path 0 rules place matching))

pub places-rise : (rules : List Rule) (path places : List ℕ) → places ≡ matching_from path 0 rules → IsStrictlyIncreasing places
places-rise rules path places is = subst IsStrictlyIncreasing (sym is) (Rises-to 0 (matching_from path 0 rules) (found-rise path 0 rules))
