-- The numbers of written rules tell them apart by their places.
use Rattle.std.proofs.Common.{◌≡◌, ℕ, zero, suc, ◌+◌, ◌<◌, ◌==◌, ◌&&◌, Bool, true, false, if◌then◌else◌, List, [], ◌∷◌, length, refl, sym, ◌∙◌, ap, inl, inr, arith, true≢false}
use Rattle.std.proofs.lemmas.Bool.{and_parts, eq-eqb, eqb-true}
use Rattle.std.specs.Prelude.{None, Option, Some, slice_get}
use Rattle.aa_text_files.specs.declared.text_error.Place.{Place}
use Rattle.aatry_shared.specs.PartFeatures.{place_at}
use Rattle.aatry_check_rules.specs.Laws.{AreOfOneRule, NumbersTellWrittenRules}
use Rattle.aatry_check_rules.specs.Written.{first_at, number_of, numbers_from, numbers_of, stands_at}

-- a place is that at which a rule stands
stands : (place : Place) (own : Option Place) → stands_at place own ≡ true → own ≡ Some place
stands place None h = absurd cc
stands place (Some own) h =
    let both = and_parts (own.file == place.file) (own.at == place.at) h in
    let file = eqb-true own.file place.file both.0 in
    let at = eqb-true own.at place.at both.1 in
    λ i. Some (record { file = file i; at = at i })

both-true : (a b : Bool) → a ≡ true → b ≡ true → (a && b) ≡ true
both-true true true h k = refl
both-true true false h k = absurd cc
both-true false b h k = absurd cc

stands-self : (place : Place) → stands_at place (Some place) ≡ true
stands-self place = both-true (place.file == place.file) (place.at == place.at) (eq-eqb place.file place.file refl) (eq-eqb place.at place.at refl)

-- where a rule stands at a place, the first that does has its number
first-stands : (place : Place) (other n : ℕ) (places : List (Option Place)) (k : ℕ) → place_at places k ≡ Some place
    → (m : ℕ) × (first_at place other n places ≡ n + m) × (place_at places m ≡ Some place)
first-stands place other n [] k at = absurd cc
first-stands place other n (own ∷ places) k at = by (stands_at place own) refl k at (λ j there. first-stands place other (n + 1) places j there)
  where
    by : (b : Bool) → stands_at place own ≡ b → (k : ℕ) → place_at (own ∷ places) k ≡ Some place
        → ((j : ℕ) → place_at places j ≡ Some place → (m : ℕ) × (first_at place other (n + 1) places ≡ (n + 1) + m) × (place_at places m ≡ Some place))
        → (m : ℕ) × ((if stands_at place own then n else first_at place other (n + 1) places) ≡ n + m) × (place_at (own ∷ places) m ≡ Some place)
    by true is k at later = (0, ap (λ b. if b then n else first_at place other (n + 1) places) is ∙ omega arith, stands place own is)
    by false is zero at later = absurd (true≢false (sym (stands-self place) ∙ ap (stands_at place) (sym at) ∙ is))
    by false is (suc j) at later =
        let found = later j at in
        (suc found.0, ap (λ b. if b then n else first_at place other (n + 1) places) is ∙ found.1 ∙ omega arith, found.2)

first-there : (place : Place) (other : ℕ) (places : List (Option Place)) (k : ℕ) → place_at places k ≡ Some place
    → (m : ℕ) × (first_at place other 0 places ≡ m) × (place_at places m ≡ Some place)
first-there place other places k at =
    let found = first-stands place other 0 places k at in
    let plain : 0 + found.0 ≡ found.0 = omega arith in
    (found.0, found.1 ∙ plain, found.2)

-- and the number of another rule isn't told
first-same : (place : Place) (one other n : ℕ) (places : List (Option Place)) (k : ℕ) → place_at places k ≡ Some place
    → first_at place one n places ≡ first_at place other n places
first-same place one other n [] k at = absurd cc
first-same place one other n (own ∷ places) k at = by (stands_at place own) refl k at (λ j there. first-same place one other (n + 1) places j there)
  where
    by : (b : Bool) → stands_at place own ≡ b → (k : ℕ) → place_at (own ∷ places) k ≡ Some place
        → ((j : ℕ) → place_at places j ≡ Some place → first_at place one (n + 1) places ≡ first_at place other (n + 1) places)
        → (if stands_at place own then n else first_at place one (n + 1) places) ≡ (if stands_at place own then n else first_at place other (n + 1) places)
    by true is k at later =
        ap (λ b. if b then n else first_at place one (n + 1) places) is ∙ sym (ap (λ b. if b then n else first_at place other (n + 1) places) is)
    by false is zero at later = absurd (true≢false (sym (stands-self place) ∙ ap (stands_at place) (sym at) ∙ is))
    by false is (suc j) at later =
        ap (λ b. if b then n else first_at place one (n + 1) places) is ∙ later j at
        ∙ sym (ap (λ b. if b then n else first_at place other (n + 1) places) is)

module _ (places : List (Option Place)) where
  abbrev number : ℕ → ℕ
  number k = number_of places k (place_at places k)

  same-then : (one other : ℕ) → number one ≡ number other → AreOfOneRule places one other
  same-then one other same = by (place_at places one) (place_at places other) refl refl same
    where
      no-place : (k : ℕ) (place : Place) → place_at places k ≡ Some place → place_at places k ≡ None → ⊥
      no-place k place there none = let no : None ≡ Some place = sym none ∙ there in cc

      by : (a b : Option Place) → place_at places one ≡ a → place_at places other ≡ b → number_of places one a ≡ number_of places other b
          → AreOfOneRule places one other
      by None None a b same = inl same
      by (Some p) None a b same =
          let found = first-there p one places one a in
          absurd (no-place other p (ap (place_at places) (sym same ∙ found.1) ∙ found.2) b)
      by None (Some q) a b same =
          let found = first-there q other places other b in
          absurd (no-place one q (ap (place_at places) (same ∙ found.1) ∙ found.2) a)
      by (Some p) (Some q) a b same =
          let first = first-there p one places one a in
          let also = first-there q other places other b in
          let equal : Some q ≡ Some p = sym also.2 ∙ ap (place_at places) (sym also.1 ∙ sym same ∙ first.1) ∙ first.2 in
          inr (p, a, b ∙ equal)

  then-same : (one other : ℕ) → AreOfOneRule places one other → number one ≡ number other
  then-same one other of-one = elim of-one [
    | inl same ↦ ap number same
    | inr there ↦
        ap (number_of places one) there.1 ∙ first-same there.0 one other 0 places one there.1 ∙ sym (ap (number_of places other) there.2)
  ]

  -- the number of each stands at its place
  number-at : (n : ℕ) (more : List (Option Place)) (k : ℕ) → k < length more
      → slice_get (numbers_from places n more) k ≡ Some (number_of places (n + k) (place_at more k))
  number-at n [] k within = absurd (omega (arith, within))
  number-at n (own ∷ more) zero within = let here : n ≡ n + 0 = omega arith in ap (λ m. Some (number_of places m own)) here
  number-at n (own ∷ more) (suc k) within =
      let next : (n + 1) + k ≡ n + suc k = omega arith in
      number-at (n + 1) more k (omega (arith, within)) ∙ ap (λ m. Some (number_of places m (place_at more k))) next

number-there : (places : List (Option Place)) (k : ℕ) → k < length places → slice_get (numbers_of places) k ≡ Some (number places k)
number-there places k within =
    let plain : 0 + k ≡ k = omega arith in
    number-at places 0 places k within ∙ ap (λ m. Some (number_of places m (place_at places k))) plain

some-inner : (n m : ℕ) → Some n ≡ Some m → n ≡ m
some-inner n m same = cc

pub numbers-tell : NumbersTellWrittenRules
numbers-tell places one other within also =
    let first = number-there places one within in
    let second = number-there places other also in (
      (λ same. same-then places one other (some-inner (number places one) (number places other) (sym first ∙ same ∙ second))),
      (λ of-one. first ∙ ap (λ n. Some n) (then-same places one other of-one) ∙ sym second),
    )
