-- Paths that the same patterns match.
use Rattle.std.proofs.Common.{◌≡◌, ◌↔◌, ℕ, zero, suc, ◌<◌, ◌≤◌, Bool, true, false, List, [], ◌∷◌, length, get_or, map, refl, sym, ◌∙◌, ap, subst, inl, inr, arith}
use Rattle.std.proofs.lemmas.Bool.{cases_eq, cases_lt, true≢false}
use Rattle.std.proofs.lemmas.List.{get_or_default}
use Rattle.std.proofs.lemmas.List.Elements.{All-contains}
use Rattle.std.specs.Prelude.{Contains, Some}
use Rattle.aa_glob_nfa.proofs.ListLemmas.{Contains-cons_cases, Contains-first, Contains-later, Contains-map, Contains-map_cases}
use Rattle.aa_glob_syntax.specs.Matching.{matches}
use Rattle.aa_glob_syntax.specs.Patterns.{AreMatching, IsPatternAt}
use Rattle.aa_glob_syntax.specs.Reading.{items_of}
use Rattle.aa_glob_paths.specs.AllPaths.{AreTold, IsOutcome, SamePlaces, TellAllPaths}
use Rattle.aa_glob_paths.specs.Laws.{IsToldOf, OutcomesAreShortest, OutcomesStandForAll}
use Rattle.aa_glob_paths.specs.declared.outcome.Outcome.{Outcome}

-- a pattern at a place that matches a path
abbrev MatchesAt : List (List ℕ) → List ℕ → ℕ → Type 0
MatchesAt patterns path place = (pattern : List ℕ) × IsPatternAt patterns place pattern × (matches (items_of pattern) path ≡ true)

module _ (p : List ℕ) (ps : List (List ℕ)) (path : List ℕ) (places : List ℕ) (rest : AreMatching ps path places) where
  later : (k : ℕ) → Contains (map suc places) (suc k) → MatchesAt (p ∷ ps) path (suc k)
  later k h =
      let found = Contains-map_cases suc places (suc k) h in
      let same : found.0 ≡ k = omega (arith, found.2) in
      (rest k).0 (subst (Contains places) same found.1)

  first-matches : matches (items_of p) path ≡ true → (place : ℕ) → Contains (0 ∷ map suc places) place ↔ MatchesAt (p ∷ ps) path place
  first-matches is zero = ((λ h. (p, refl, is)), (λ known. Contains-first 0 (map suc places)))
  first-matches is (suc k) = (
    (λ h. elim (Contains-cons_cases 0 (map suc places) (suc k) h) [ inl none ↦ absurd (omega (arith, none)) | inr more ↦ later k more ]),
    (λ known. Contains-later 0 (map suc places) (suc k) (Contains-map suc places k ((rest k).1 known))),
  )

  first-other : matches (items_of p) path ≡ false → (place : ℕ) → Contains (map suc places) place ↔ MatchesAt (p ∷ ps) path place
  first-other is zero = (
    (λ h. absurd (let found = Contains-map_cases suc places 0 h in omega (arith, found.2))),
    (λ known. absurd (let same : p ≡ known.0 = let at = known.1 in cc in true≢false (sym known.2 ∙ ap (λ l. matches (items_of l) path) (sym same) ∙ is))),
  )
  first-other is (suc k) = (later k, (λ known. Contains-map suc places k ((rest k).1 known)))

-- the places of the patterns that match a path
matching-places : (patterns : List (List ℕ)) (path : List ℕ) → (places : List ℕ) × AreMatching patterns path places
matching-places [] path = ([], λ place. ((λ h. absurd (omega (arith, h.1))), (λ known. absurd (let at = known.1 in cc))))
matching-places (p ∷ ps) path = by (matches (items_of p) path) refl (matching-places ps path)
  where
    by : (b : Bool) → matches (items_of p) path ≡ b → (places : List ℕ) × AreMatching ps path places → (places : List ℕ) × AreMatching (p ∷ ps) path places
    by true is rest = (0 ∷ map suc rest.0, first-matches p ps path rest.0 rest.1 is)
    by false is rest = (map suc rest.0, first-other p ps path rest.0 rest.1 is)

-- tests that hold together
alike : (a b : Bool) → (a ≡ true → b ≡ true) → (b ≡ true → a ≡ true) → a ≡ b
alike true b to from = sym (to refl)
alike false true to from = from refl
alike false false to from = refl

-- a pattern at a place matches a path where the place is among those that do
told : (patterns : List (List ℕ)) (path places : List ℕ) (place : ℕ) (pattern : List ℕ) → AreMatching patterns path places → IsPatternAt patterns place pattern
    → Contains places place → matches (items_of pattern) path ≡ true
told patterns path places place pattern matching at among =
    let known = (matching place).0 among in
    let same : known.0 ≡ pattern = let both : Some known.0 ≡ Some pattern = sym known.1 ∙ at in cc in
    subst (λ l. matches (items_of l) path ≡ true) same known.2

-- the places of a path that is told of
told-places : (patterns : List (List ℕ)) (classes path places : List ℕ) → AreMatching patterns path places → IsToldOf patterns classes path → AreTold classes places
told-places patterns classes path places matching is_told =
    let wanted = is_told.wanted in
    record {
      wanted = (wanted.0, (matching wanted.0).1 (wanted.1, wanted.2, wanted.4), wanted.3);
      none_passed_over = λ has. let known = (matching has.0).0 has.1 in is_told.not_passed_over (has.0, known.0, known.1, has.2, known.2);
    }

pub stand-for-all : OutcomesStandForAll
stand-for-all patterns classes outcomes told_all path bytes is_told =
    let mine = matching-places patterns path in
    let there = told_all.each_path path mine.0 bytes mine.1 (told-places patterns classes path mine.0 mine.1 is_told) in
    let outcome = there.0 in
    let is = All-contains (IsOutcome patterns classes) outcomes outcome told_all.each_outcome there.1 in (
      outcome.path.items,
      Contains-map (λ (o : Outcome). o.path.items) outcomes outcome there.1,
      record {
        bytes = is.bytes;
        alike = λ place pattern at. alike (matches (items_of pattern) path) (matches (items_of pattern) outcome.path.items)
            (λ h. told patterns outcome.path.items outcome.places.items place pattern is.matching at ((there.2 place).1 ((mine.1 place).1 (pattern, at, h))))
            (λ h. told patterns path mine.0 place pattern mine.1 at ((there.2 place).0 ((is.matching place).1 (pattern, at, h))));
        no_longer = there.3;
      },
    )

-- outcomes at two numbers have other places
apart-at : (patterns : List (List ℕ)) (classes : List ℕ) (outcomes : List Outcome) (i j : ℕ) (one other : Outcome) → TellAllPaths patterns classes outcomes
    → i < j → j < length outcomes → get_or outcomes i one ≡ one → get_or outcomes j other ≡ other → SamePlaces one.places.items other.places.items → ⊥
apart-at patterns classes outcomes i j one other told_all before within first second same =
    told_all.apart i j one before within
    (subst (λ (o : Outcome). SamePlaces o.places.items (get_or outcomes j one).places.items) (sym first)
    (subst (λ (o : Outcome). SamePlaces one.places.items o.places.items) (sym (get_or_default outcomes j one other within ∙ second)) same))

-- so those that have the same are one
one-alone : (patterns : List (List ℕ)) (classes : List ℕ) (outcomes : List Outcome) (one other : Outcome) → TellAllPaths patterns classes outcomes
    → Contains outcomes one → Contains outcomes other → SamePlaces one.places.items other.places.items → one ≡ other
one-alone patterns classes outcomes one other told_all at there same = elim (cases_eq at.0 there.0) [
  | inl equal ↦ sym at.2 ∙ get_or_default outcomes at.0 one other at.1 ∙ ap (λ k. get_or outcomes k other) equal ∙ there.2
  | inr differ ↦ elim (cases_lt at.0 there.0) [
    | inl before ↦ absurd (apart-at patterns classes outcomes at.0 there.0 one other told_all before there.1 at.2 there.2 same)
    | inr behind ↦
        let before : there.0 < at.0 = omega (arith, behind, differ) in
        absurd (apart-at patterns classes outcomes there.0 at.0 other one told_all before at.1 there.2 at.2 (λ p. ((same p).1, (same p).0)))
  ]
]

pub are-shortest : OutcomesAreShortest
are-shortest patterns classes outcomes o told_all among path bytes matching =
    let is = All-contains (IsOutcome patterns classes) outcomes o told_all.each_outcome among in
    let there = told_all.each_path path o.places.items bytes matching is.told in
    let same = one-alone patterns classes outcomes there.0 o told_all there.1 among there.2 in
    subst (λ (x : Outcome). length x.path.items ≤ length path) same there.3
