-- The greatest of some ranks, and where it stands.
use Rattle.std.proofs.Common.{◌≡◌, ℕ, zero, suc, ◌+◌, ◌<◌, ◌≤◌, ◌==◌, Bool, true, false, List, [], ◌∷◌, length, Option, None, Some, inl, inr, arith, ap, refl}
use Rattle.std.specs.Prelude.{◌≢◌, fold, if◌then◌else◌, nat_le, slice_index}
use Rattle.std.specs.Option.{option_map}
use Rattle.std.proofs.lemmas.Bool.{cases_lt, eq-eqb, eqb-false, eqb-true, leb-false, leb-true}
use Rattle.std.proofs.lemmas.List.Folds.{list_any_at}
use Rattle.aa_decide_rules.specs.RankLaws.{StandsOut}
use Rattle.aa_decide_rules.specs.Ranks.{greater}
use Rattle.aa_decide_rules.specs.StandingOut.{greatest, has_rank, place_of_only, standing_out}

-- two that differ
apart-eqb : (one other : ℕ) → one ≢ other → (one == other) ≡ false
apart-eqb one other apart = by (one == other) refl
  where
    by : (b : Bool) → (one == other) ≡ b → b ≡ false
    by true e = absurd (apart (eqb-true one other e))
    by false e = refl

-- the greater of two is below neither, and not above what is above both
pub greater-most : (one other : ℕ) → (one ≤ greater one other) × (other ≤ greater one other)
greater-most one other = by (nat_le one other) refl
  where
    by : (b : Bool) → nat_le one other ≡ b → (one ≤ (if b then other else one)) × (other ≤ (if b then other else one))
    by true e = let less = leb-true one other e in (omega arith, omega arith)
    by false e = let less = leb-false one other e in (omega arith, omega arith)

pub greater-least : (one other top : ℕ) → one ≤ top → other ≤ top → greater one other ≤ top
greater-least one other top l r = by (nat_le one other)
  where
    by : (b : Bool) → (if b then other else one) ≤ top
    by true = r
    by false = l

-- no rank is above the greatest
first-most : (best : ℕ) (ranks : List ℕ) → best ≤ fold greater best ranks
first-most best [] = omega arith
first-most best (rank ∷ ranks) = let here = greater-most best rank in let rest = first-most (greater best rank) ranks in let less = here.0 in omega arith

rank-most : (best : ℕ) (ranks : List ℕ) (place : ℕ) → place < length ranks → slice_index ranks place ≤ fold greater best ranks
rank-most best [] place within = absurd (omega arith)
rank-most best (rank ∷ ranks) zero within = let less = (greater-most best rank).1 in let rest = first-most (greater best rank) ranks in omega arith
rank-most best (rank ∷ ranks) (suc place) within = rank-most (greater best rank) ranks place (omega arith)

-- and the greatest isn't above what is above all
most-least : (best top : ℕ) (ranks : List ℕ) → best ≤ top → ((place : ℕ) → place < length ranks → slice_index ranks place ≤ top) → fold greater best ranks ≤ top
most-least best top [] b all = b
most-least best top (rank ∷ ranks) b all =
    most-least (greater best rank) top ranks (greater-least best rank top b (all 0 (omega arith))) (λ place within. all (suc place) (omega arith))

-- a rank that stands at a place is there
has-at : (rank : ℕ) (ranks : List ℕ) (place : ℕ) → place < length ranks → slice_index ranks place ≡ rank → has_rank rank ranks ≡ true
has-at rank ranks place within is = list_any_at (λ other. other == rank) ranks place 0 within (eq-eqb (slice_index ranks place) rank is)

-- one that all are below isn't
has-none : (rank : ℕ) (ranks : List ℕ) → ((place : ℕ) → place < length ranks → slice_index ranks place < rank) → has_rank rank ranks ≡ false
has-none rank [] all = refl
has-none rank (other ∷ ranks) all = by (other == rank) refl (has-none rank ranks (λ place within. all (suc place) (omega arith)))
  where
    by : (b : Bool) → (other == rank) ≡ b → has_rank rank ranks ≡ false → has_rank rank (other ∷ ranks) ≡ false
    by true e rest = let same = eqb-true other rank e in let less = all 0 (omega arith) in absurd (omega arith)
    by false e rest = rw e rest

-- a rank stands at a place, and nowhere else
abbrev StandsOnce : ℕ → List ℕ → ℕ → Type 0
StandsOnce rank ranks place =
    (place < length ranks) × (slice_index ranks place ≡ rank) × ((other : ℕ) → other < length ranks → slice_index ranks other ≡ rank → other ≡ place)

-- a place is told of a rank that stands there alone
only-holds : (rank : ℕ) (ranks : List ℕ) (place : ℕ) → place_of_only rank ranks ≡ Some place → StandsOnce rank ranks place
only-holds rank [] place holds = absurd (cc)
only-holds rank (first ∷ ranks) place holds = by (first == rank) refl (has_rank rank ranks) refl (place_of_only rank ranks) (only-holds rank ranks) holds
  where
    by : (here : Bool) → (first == rank) ≡ here → (more : Bool) → has_rank rank ranks ≡ more → (found : Option ℕ) → ((place : ℕ) → found ≡ Some place → StandsOnce rank ranks place)
        → (if here then (if more then None else Some 0) else option_map (λ place. 1 + place) found) ≡ Some place → StandsOnce rank (first ∷ ranks) place
    by true h true m found rest holds = absurd (cc)
    by true h false m found rest holds = here place (cc)
      where
        here : (place : ℕ) → place ≡ 0 → StandsOnce rank (first ∷ ranks) place
        here (suc place) is = absurd (omega arith)
        here zero is = (omega arith, eqb-true first rank h, alone)
          where
            alone : (other : ℕ) → other < length (first ∷ ranks) → slice_index (first ∷ ranks) other ≡ rank → other ≡ zero
            alone zero within same = refl
            alone (suc other) within same = let there = has-at rank ranks other (omega arith) same in absurd (cc)
    by false h more m None rest holds = absurd (cc)
    by false h more m (Some found) rest holds = there place (cc)
      where
        there : (place : ℕ) → 1 + found ≡ place → StandsOnce rank (first ∷ ranks) place
        there zero is = absurd (omega arith)
        there (suc place) is =
            let same : found ≡ place = omega arith in
            let once = rest place (ap Some same) in
            let within = once.0 in
            (omega arith, once.1, alone once.2)
          where
            alone : ((other : ℕ) → other < length ranks → slice_index ranks other ≡ rank → other ≡ place) → (other : ℕ) → other < length (first ∷ ranks) → slice_index (first ∷ ranks) other ≡ rank
                → other ≡ suc place
            alone only zero within same = let not_here = eq-eqb first rank same in absurd (cc)
            alone only (suc other) within same = ap suc (only other (omega arith) same)

one_more : (place : ℕ) → 1 + place ≡ suc place
one_more place = omega arith

-- the place of a rank that all others are below
only-from : (rank : ℕ) (ranks : List ℕ) (place : ℕ) → place < length ranks → slice_index ranks place ≡ rank
    → ((other : ℕ) → other < length ranks → other ≢ place → slice_index ranks other < rank) → place_of_only rank ranks ≡ Some place
only-from rank [] place within is others = absurd (omega arith)
only-from rank (first ∷ ranks) zero within is others =
    let here : (first == rank) ≡ true = eq-eqb first rank is in
    let none : has_rank rank ranks ≡ false = has-none rank ranks (λ place within. others (suc place) (omega arith) (λ same. absurd (omega arith))) in
    rw (here, none) refl
only-from rank (first ∷ ranks) (suc place) within is others =
    let less = others 0 (omega arith) (λ same. absurd (omega arith)) in
    let not_here : (first == rank) ≡ false = apart-eqb first rank (λ same. absurd (omega arith)) in
    let rest = only-from rank ranks place (omega arith) is (λ other within apart. others (suc other) (omega arith) (λ same. apart (omega arith))) in
    rw (not_here, rest) (ap Some (one_more place))

-- what stands out has a rank above 0, and all others lower ones
pub stands_out-holds : (ranks : List ℕ) (place : ℕ) → standing_out ranks ≡ Some place → StandsOut ranks place
stands_out-holds ranks place holds = by (greatest ranks == 0) refl holds
  where
    by : (none : Bool) → (greatest ranks == 0) ≡ none → (if none then None else place_of_only (greatest ranks) ranks) ≡ Some place → StandsOut ranks place
    by true n holds = absurd (cc)
    by false n holds =
        let once = only-holds (greatest ranks) ranks place holds in
        let is = once.1 in
        let above : 0 < greatest ranks = elim (cases_lt 0 (greatest ranks)) [ inl some ↦ some | inr none ↦ absurd (eqb-false (greatest ranks) 0 n (omega arith)) ] in (
          once.0,
          omega arith,
          λ other within apart.
              let most : slice_index ranks other ≤ greatest ranks = rank-most 0 ranks other within in
              elim (cases_lt (slice_index ranks other) (greatest ranks)) [ inl less ↦ omega arith | inr more ↦ absurd (apart (once.2 other within (omega arith))) ],
        )

-- and what has stands out
pub stands_out-from : (ranks : List ℕ) (place : ℕ) → StandsOut ranks place → standing_out ranks ≡ Some place
stands_out-from ranks place (within, above, others) =
    let most : slice_index ranks place ≤ greatest ranks = rank-most 0 ranks place within in
    let least : greatest ranks ≤ slice_index ranks place = most-least 0 (slice_index ranks place) ranks (omega arith) below-all in
    let same : greatest ranks ≡ slice_index ranks place = omega arith in
    let some : (slice_index ranks place == 0) ≡ false = apart-eqb (slice_index ranks place) 0 (λ same. absurd (omega arith)) in
    rw (same, some) (only-from (slice_index ranks place) ranks place within refl others)
  where
    below-all : (other : ℕ) → other < length ranks → slice_index ranks other ≤ slice_index ranks place
    below-all other inside = elim (cases_lt other place) [
      | inl before ↦ let less = others other inside (λ same. absurd (omega arith)) in omega arith
      | inr behind ↦ elim (cases_lt place other) [
        | inl beyond ↦ let less = others other inside (λ same. absurd (omega arith)) in omega arith
        | inr here ↦ let same : other ≡ place = omega arith in let equal = ap (slice_index ranks) same in omega arith
      ]
    ]
