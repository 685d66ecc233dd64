-- The places of patterns that stand behind others, counted from there.
use Rattle.std.proofs.Common.{◌≡◌, ◌⊎◌, ℕ, zero, suc, ◌+◌, ◌-◌, ◌<◌, ◌≤◌, Bool, true, false, List, [], ◌∷◌, ◌++◌, if◌then◌else◌, length, refl, sym, ◌∙◌, ap, subst, inl, inr, arith}
use Rattle.std.specs.Prelude.{All, AllPairs, Contains, nat_lt}
use Rattle.std.specs.List.Sorted.{IsStrictlyIncreasing}
use Rattle.std.proofs.lemmas.Bool.{ltb-false, ltb-true}
use Rattle.std.proofs.lemmas.List.Kept.{AllPairs-cons}
use Rattle.aa_explain_paths.proofs.TellingLemmas.{behind-at}
use Rattle.aa_glob_nfa.proofs.ListLemmas.{Contains-cons_cases, Contains-first, Contains-later}
use Rattle.aa_glob_syntax.specs.Patterns.{AreMatching}
use Rattle.aa_profile_data.specs.FileRules.{file_patterns, places_from}
use Rattle.aa_profile_data.specs.declared.profile.Rule.{Rule}
use Rattle.aa_profile_data.specs.declared.profile.Rule.TheVariants.{Cap, File, Net, Other}
use Rattle.aa_explain_changes.specs.code.Kinds.{places_behind}

-- a place lies before so many, or behind them
sides-of : (place count : ℕ) → ((nat_lt place count ≡ true) × (place < count)) ⊎ ((nat_lt place count ≡ false) × (count ≤ place))
sides-of place count = by (nat_lt place count) refl
  where
    by : (b : Bool) → nat_lt place count ≡ b → ((b ≡ true) × (place < count)) ⊎ ((b ≡ false) × (count ≤ place))
    by true is = inl (refl, ltb-true place count is)
    by false is = inr (refl, ltb-false place count is)

drops : (count place : ℕ) (places : List ℕ) → nat_lt place count ≡ true → places_behind count (place ∷ places) ≡ places_behind count places
drops count place places is = ap (λ b. if b then places_behind count places else (place - count) ∷ places_behind count places) is

keeps : (count place : ℕ) (places : List ℕ) → nat_lt place count ≡ false → places_behind count (place ∷ places) ≡ (place - count) ∷ places_behind count places
keeps count place places is = ap (λ b. if b then places_behind count places else (place - count) ∷ places_behind count places) is

-- what is told lies behind
behind-there : (count : ℕ) (places : List ℕ) (k : ℕ) → Contains (places_behind count places) k → Contains places (count + k)
behind-there count [] k at = absurd (omega (arith, at.1))
behind-there count (place ∷ places) k at = elim (sides-of place count) [
  | inl low ↦ Contains-later place places (count + k) (behind-there count places k (subst (λ l. Contains l k) (drops count place places low.0) at))
  | inr high ↦ elim (Contains-cons_cases (place - count) (places_behind count places) k (subst (λ l. Contains l k) (keeps count place places high.0) at)) [
    | inl same ↦ let is : place ≡ count + k = omega (arith, same, high.1) in subst (Contains (place ∷ places)) is (Contains-first place places)
    | inr more ↦ Contains-later place places (count + k) (behind-there count places k more)
  ]
]

-- and what lies behind is told
there-behind : (count : ℕ) (places : List ℕ) (k : ℕ) → Contains places (count + k) → Contains (places_behind count places) k
there-behind count [] k at = absurd (omega (arith, at.1))
there-behind count (place ∷ places) k at = elim (sides-of place count) [
  | inl low ↦ subst (λ l. Contains l k) (sym (drops count place places low.0)) (elim (Contains-cons_cases place places (count + k) at) [
    | inl same ↦ absurd (omega (arith, same, low.1))
    | inr more ↦ there-behind count places k more
  ])
  | inr high ↦ subst (λ l. Contains l k) (sym (keeps count place places high.0)) (elim (Contains-cons_cases place places (count + k) at) [
    | inl same ↦ let is : place - count ≡ k = omega (arith, same) in
        subst (Contains ((place - count) ∷ places_behind count places)) is (Contains-first (place - count) (places_behind count places))
    | inr more ↦ Contains-later (place - count) (places_behind count places) k (there-behind count places k more)
  ])
]

-- the places of the patterns that match, of those behind others
pub matching-behind : (ps qs : List (List ℕ)) (path places : List ℕ) → AreMatching (ps ++ qs) path places → AreMatching qs path (places_behind (length ps) places)
matching-behind ps qs path places all place = (
  (λ at.
      let found = (all (length ps + place)).0 (behind-there (length ps) places place at) in
      (found.0, sym (behind-at ps qs place) ∙ found.1, found.2)),
  (λ found. there-behind (length ps) places place ((all (length ps + place)).1 (found.0, behind-at ps qs place ∙ found.1, found.2))),
)

-- numbers above one
abbrev Above : ℕ → List ℕ → Type 0
Above m places = All (λ y. m < y) places

-- places that rise lie above the first
above : (count m : ℕ) (places : List ℕ) → count ≤ m → Above m places → Above (m - count) (places_behind count places)
above count m [] low all = λ k d within. absurd (omega (arith, within))
above count m (place ∷ places) low all =
    let rest = above count m places low (λ k d within. all (suc k) d (omega (arith, within))) in
    let first = all 0 0 (omega arith) in
    elim (sides-of place count) [
      | inl under ↦ absurd (omega (arith, first, under.1, low))
      | inr high ↦ subst (Above (m - count)) (sym (keeps count place places high.0)) (of first rest)
    ]
  where
    of : m < place → Above (m - count) (places_behind count places) → Above (m - count) ((place - count) ∷ places_behind count places)
    of first rest zero d within = omega (arith, first, low)
    of first rest (suc k) d within = rest k d (omega (arith, within))

abbrev Rise : List ℕ → Type 0
Rise places = AllPairs (λ x y. x < y) places

rising : (count : ℕ) (places : List ℕ) → Rise places → Rise (places_behind count places)
rising count [] rise = λ i j d before within. absurd (omega (arith, within))
rising count (place ∷ places) rise =
    let rest = rising count places (λ i j d before within. rise (suc i) (suc j) d (omega (arith, before)) (omega (arith, within))) in
    elim (sides-of place count) [
      | inl low ↦ subst Rise (sym (drops count place places low.0)) rest
      | inr high ↦ subst Rise (sym (keeps count place places high.0))
          (AllPairs-cons (λ x y. x < y) (place - count) (places_behind count places)
          (above count place places high.1 (λ k d within. rise 0 (suc k) d (omega arith) (omega (arith, within)))) rest)
    ]

pub behind-rise : (count : ℕ) (places : List ℕ) → AllPairs (λ x y. x < y) places → IsStrictlyIncreasing (places_behind count places)
behind-rise count places rise k within = rising count places rise k (k + 1) 0 (omega arith) within

-- the rules on files have as many places as patterns
pub as-many : (first : ℕ) (rules : List Rule) → length (places_from first rules) ≡ length (file_patterns rules)
as-many first [] = refl
as-many first (File rule ∷ rules) = ap suc (as-many (first + 1) rules)
as-many first (Cap rule ∷ rules) = as-many (first + 1) rules
as-many first (Net rule ∷ rules) = as-many (first + 1) rules
as-many first (Other rule ∷ rules) = as-many (first + 1) rules
