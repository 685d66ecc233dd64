-- Places of rules that pass a test.
use Rattle.std.proofs.Common.{◌≡◌, ◌∙◌, ℕ, zero, suc, ◌+◌, ◌<◌, ◌≤◌, Bool, true, false, List, [], ◌∷◌, length, refl, subst, sym, ap, arith, Some}
use Rattle.std.specs.Prelude.{slice_get, slice_index}
use Rattle.std.specs.List.{Contains, filter}
use Rattle.std.specs.List.Sorted.{IsStrictlyIncreasing}
use Rattle.aa_profile_data.specs.Request.{Request}
use Rattle.aa_profile_data.specs.Picked.{picked}
use Rattle.aa_profile_data.specs.declared.profile.Rule.{Rule}
use Rattle.aa_decide_rules.specs.Verdict.{applies}
use Rattle.aa_explain_rules.specs.Laws.{AreAllWith, StandsAt, places_of}
use Rattle.aa_explain_rules.specs.Told.{places_where, told_from}

-- the places of the rules that are told are those of the rules that apply
pub told-places : (flag : Bool) (request : Request) (first : ℕ) (rules : List Rule) → places_of (told_from flag request first rules) ≡ places_where (applies request) first rules
told-places flag request first [] = refl
told-places flag request first (rule ∷ rules) = by (applies request rule) refl (told-places flag request (first + 1) rules)
  where
    by : (b : Bool) → applies request rule ≡ b → places_of (told_from flag request (first + 1) rules) ≡ places_where (applies request) (first + 1) rules
        → places_of (told_from flag request first (rule ∷ rules)) ≡ places_where (applies request) first (rule ∷ rules)
    by true e rest = rw e (ap (λ places. first ∷ places) rest)
    by false e rest = rw e rest

module _ (test : Rule → Bool) where
  -- the rule of a place stands so many behind the first
  abbrev Behind : ℕ → List Rule → ℕ → Type 0
  Behind first rules place = (i : ℕ) × (place ≡ first + i) × StandsAt test rules i

  -- a place that is among those of the rules behind the first
  later : (first : ℕ) (rule : Rule) (rules : List Rule) (place : ℕ) → Behind (first + 1) rules place → Behind first (rule ∷ rules) place
  later first rule rules place (i, at, stands) = let there : place ≡ first + suc i = omega arith in (suc i, there, stands)

  -- a place among those of rules is that of one
  found-stands : (first : ℕ) (rules : List Rule) (place : ℕ) → Contains (places_where test first rules) place → Behind first rules place
  found-stands first [] place (k, within, is) = absurd (omega arith)
  found-stands first (rule ∷ rules) place found = by (test rule) refl (found-stands (first + 1) rules place)
    where
      Rest : Type 0
      Rest = Contains (places_where test (first + 1) rules) place → Behind (first + 1) rules place

      of : test rule ≡ true → Rest → Contains (first ∷ places_where test (first + 1) rules) place → Behind first (rule ∷ rules) place
      of e rest (zero, within, is) = let at : place ≡ first + zero = omega arith in (zero, at, (rule, refl, e))
      of e rest (suc k, within, is) =
          let inside : k < length (places_where test (first + 1) rules) = omega arith in
          later first rule rules place (rest (k, inside, is))

      by : (b : Bool) → test rule ≡ b → Rest → Behind first (rule ∷ rules) place
      by true e rest = of e rest (rw e at found)
      by false e rest = later first rule rules place (rest (rw e at found))

  -- a rule that passes the test, so many behind the first, has its place among them
  stands-found : (first : ℕ) (rules : List Rule) (i : ℕ) → StandsAt test rules i → Contains (places_where test first rules) (first + i)
  stands-found first [] i (rule, is, passes) = absurd (cc)
  stands-found first (other ∷ rules) zero (rule, is, passes) =
      let same : other ≡ rule = cc in
      let e : test other ≡ true = ap test same ∙ passes in
      let at : first ≡ first + zero = omega arith in
      let some : 0 < length (first ∷ places_where test (first + 1) rules) = omega arith in
      rw e (0, some, at)
  stands-found first (other ∷ rules) (suc i) (rule, is, passes) = by (test other) refl (stands-found (first + 1) rules i (rule, is, passes))
    where
      at : first + 1 + i ≡ first + suc i
      at = omega arith

      by : (b : Bool) → test other ≡ b → Contains (places_where test (first + 1) rules) (first + 1 + i) → Contains (places_where test first (other ∷ rules)) (first + suc i)
      by true e (k, within, is) =
          let inside : suc k < length (first ∷ places_where test (first + 1) rules) = omega arith in
          rw e (suc k, inside, rw at at is)
      by false e (k, within, is) = rw e (k, within, rw at at is)

  -- the places of the rules that pass the test
  pub are-all : (rules : List Rule) → AreAllWith test rules (places_where test 0 rules)
  are-all rules place = (λ found. there (found-stands 0 rules place found), λ stands. let at : 0 + place ≡ place = omega arith in subst (Contains (places_where test 0 rules)) at (stands-found 0 rules place stands))
    where
      there : Behind 0 rules place → StandsAt test rules place
      there (i, is, (rule, at, passes)) = let same : i ≡ place = omega arith in (rule, ap (slice_get rules) (sym same) ∙ at, passes)

  -- each is at least the first
  not-before : (first : ℕ) (rules : List Rule) (k : ℕ) → k < length (places_where test first rules) → first ≤ slice_index (places_where test first rules) k
  not-before first [] k within = absurd (omega arith)
  not-before first (rule ∷ rules) k within = by (test rule) refl (not-before (first + 1) rules) k within
    where
      Rest : Type 0
      Rest = (k : ℕ) → k < length (places_where test (first + 1) rules) → first + 1 ≤ slice_index (places_where test (first + 1) rules) k

      by : (b : Bool) → test rule ≡ b → Rest → (k : ℕ) → k < length (places_where test first (rule ∷ rules)) → first ≤ slice_index (places_where test first (rule ∷ rules)) k
      by true e rest zero within = rw e (omega arith)
      by true e rest (suc k) within =
          let some : suc k < length (first ∷ places_where test (first + 1) rules) = rw e at within in
          let inside : k < length (places_where test (first + 1) rules) = omega arith in
          let least = rest k inside in
          rw e (omega arith)
      by false e rest k within = let least = rest k (rw e at within) in rw e (omega arith)

  -- they rise
  rise-from : (first : ℕ) (rules : List Rule) → IsStrictlyIncreasing (places_where test first rules)
  rise-from first [] k within = absurd (omega arith)
  rise-from first (rule ∷ rules) k within = by (test rule) refl (rise-from (first + 1) rules) k within
    where
      Rest : Type 0
      Rest = IsStrictlyIncreasing (places_where test (first + 1) rules)

      by : (b : Bool) → test rule ≡ b → Rest → (k : ℕ) → k + 1 < length (places_where test first (rule ∷ rules))
          → slice_index (places_where test first (rule ∷ rules)) k < slice_index (places_where test first (rule ∷ rules)) (k + 1)
      by true e rest zero within =
          let some : 1 < length (first ∷ places_where test (first + 1) rules) = rw e at within in
          let inside : 0 < length (places_where test (first + 1) rules) = omega arith in
          let least = not-before (first + 1) rules 0 inside in
          rw e (omega arith)
      by true e rest (suc k) within =
          let some : suc k + 1 < length (first ∷ places_where test (first + 1) rules) = rw e at within in
          let inside : k + 1 < length (places_where test (first + 1) rules) = omega arith in
          let behind : suc k + 1 ≡ suc (k + 1) = omega arith in
          rw (e, behind) (rest k inside)
      by false e rest k within = rw e (rest k (rw e at within))

  pub rise : (rules : List Rule) → IsStrictlyIncreasing (places_where test 0 rules)
  rise rules = rise-from 0 rules

  -- what stands at their places are those that pass, where the rules stand behind others
  pick-from : (all : List Rule) (first : ℕ) (rules : List Rule) → ((i : ℕ) → slice_get all (first + i) ≡ slice_get rules i) → picked all (places_where test first rules) ≡ filter test rules
  pick-from all first [] same = refl
  pick-from all first (rule ∷ rules) same = by (test rule) refl (pick-from all (first + 1) rules later-same)
    where
      later-same : (i : ℕ) → slice_get all (first + 1 + i) ≡ slice_get rules i
      later-same i = let at : first + 1 + i ≡ first + suc i = omega arith in ap (slice_get all) at ∙ same (suc i)

      here : slice_get all first ≡ Some rule
      here = let at : first ≡ first + 0 = omega arith in ap (slice_get all) at ∙ same 0

      by : (b : Bool) → test rule ≡ b → picked all (places_where test (first + 1) rules) ≡ filter test rules
          → picked all (places_where test first (rule ∷ rules)) ≡ filter test (rule ∷ rules)
      by true e rest = rw (e, picked, here) (ap (λ rules. rule ∷ rules) rest)
      by false e rest = rw e rest

  pub pick : (rules : List Rule) → picked rules (places_where test 0 rules) ≡ filter test rules
  pick rules = pick-from rules 0 rules (λ i. let at : 0 + i ≡ i = omega arith in ap (slice_get rules) at)
