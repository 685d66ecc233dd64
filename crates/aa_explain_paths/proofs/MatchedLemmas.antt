-- The rules that match the path of an outcome are found by its places.
use Rattle.std.proofs.Common.{◌≡◌, ◌∙◌, ◌++◌, ℕ, zero, suc, ◌+◌, Bool, true, false, List, [], ◌∷◌, ap, append_assoc, arith, inl, inr, refl, subst, sym, true≢false}
use Rattle.std.specs.Prelude.{Contains, None, Option, Some, slice_get}
use Rattle.std.specs.List.{filter}
use Rattle.std.specs.List.Sorted.{IsStrictlyIncreasing}
use Rattle.std.proofs.lemmas.Option.{slice_get_within}
use Rattle.aa_glob_nfa.proofs.RunLemmas.{slice_get-append}
use Rattle.aa_glob_nfa.proofs.ListLemmas.{Contains-cons_cases, Contains-first, Contains-later}
use Rattle.aa_glob_paths.specs.AllPaths.{IsOutcome}
use Rattle.aa_glob_paths.specs.declared.outcome.Outcome.{Outcome}
use Rattle.aa_glob_syntax.specs.Patterns.{AreMatching, IsPatternAt}
use Rattle.aa_profile_data.specs.FileRules.{file_patterns, places_from}
use Rattle.aa_profile_data.specs.Matching.{AreMatchingRules}
use Rattle.aa_profile_data.specs.Picked.{picked}
use Rattle.aa_profile_data.specs.declared.profile.Rule.{Rule}
use Rattle.aa_profile_data.specs.declared.profile.Rule.TheVariants.{Cap, File, Net, Other}
use Rattle.aa_explain_paths.specs.Matched.{AreMatched}
use Rattle.aa_explain_paths.specs.Telling.{telling_patterns}
use Rattle.aa_explain_paths.specs.declared.matched.MatchedRules.{MatchedRules}

-- something stands at a place of a list
abbrev is_there : {X : Type 0} → Option X → Bool
is_there None = false
is_there (Some x) = true

abbrev stands : {X : Type 0} → List X → ℕ → Bool
stands xs place = is_there (slice_get xs place)

-- something stands at a place of the file rules' places where a pattern of theirs does
stands-alike : (first : ℕ) (rules : List Rule) (place : ℕ) → stands (file_patterns rules) place ≡ stands (places_from first rules) place
stands-alike first [] place = refl
stands-alike first (File rule ∷ rules) zero = refl
stands-alike first (File rule ∷ rules) (suc place) = stands-alike (first + 1) rules place
stands-alike first (Cap rule ∷ rules) place = stands-alike (first + 1) rules place
stands-alike first (Net rule ∷ rules) place = stands-alike (first + 1) rules place
stands-alike first (Other rule ∷ rules) place = stands-alike (first + 1) rules place

keeps-first : (test : ℕ → Bool) (place : ℕ) (places : List ℕ) → test place ≡ true → filter test (place ∷ places) ≡ place ∷ filter test places
keeps-first test place places is = rw is refl

drops-first : (test : ℕ → Bool) (place : ℕ) (places : List ℕ) → test place ≡ false → filter test (place ∷ places) ≡ filter test places
drops-first test place places is = rw is refl

-- places at which nothing stands pick nothing
picked-kept : {X : Type 0} (xs : List X) (test : ℕ → Bool) → ((place : ℕ) → test place ≡ stands xs place) → (places : List ℕ)
    → picked xs (filter test places) ≡ picked xs places
picked-kept xs test same [] = refl
picked-kept {X} xs test same (place ∷ places) = by (slice_get xs place) refl (picked-kept xs test same places)
  where
    by : (found : Option X) → slice_get xs place ≡ found → picked xs (filter test places) ≡ picked xs places
        → picked xs (filter test (place ∷ places)) ≡ picked xs (place ∷ places)
    by None is rest =
        ap (picked xs) (drops-first test place places (same place ∙ ap is_there is)) ∙ rest
        ∙ sym (ap (λ f. elim f [ None ↦ picked xs places | Some x ↦ x ∷ picked xs places ]) is)
    by (Some y) is rest =
        ap (picked xs) (keeps-first test place places (same place ∙ ap is_there is))
        ∙ ap (λ r. elim (slice_get xs place) [ None ↦ r | Some x ↦ x ∷ r ]) rest

kept-there : (test : ℕ → Bool) (xs : List ℕ) (x : ℕ) → Contains (filter test xs) x → Contains xs x × (test x ≡ true)
kept-there test [] x there = absurd (omega (arith, there.1))
kept-there test (one ∷ xs) x there = by (test one) refl (kept-there test xs x)
  where
    by : (b : Bool) → test one ≡ b → (Contains (filter test xs) x → Contains xs x × (test x ≡ true)) → Contains (one ∷ xs) x × (test x ≡ true)
    by true is rest = elim (Contains-cons_cases one (filter test xs) x (subst (λ l. Contains l x) (keeps-first test one xs is) there)) [
      | inl same ↦ (subst (Contains (one ∷ xs)) same (Contains-first one xs), ap test (sym same) ∙ is)
      | inr more ↦ let both = rest more in (Contains-later one xs x both.0, both.1)
    ]
    by false is rest =
        let both = rest (subst (λ l. Contains l x) (drops-first test one xs is) there) in
        (Contains-later one xs x both.0, both.1)

there-kept : (test : ℕ → Bool) (xs : List ℕ) (x : ℕ) → Contains xs x → test x ≡ true → Contains (filter test xs) x
there-kept test [] x there passes = absurd (omega (arith, there.1))
there-kept test (one ∷ xs) x there passes = by (test one) refl (there-kept test xs x)
  where
    by : (b : Bool) → test one ≡ b → (Contains xs x → test x ≡ true → Contains (filter test xs) x) → Contains (filter test (one ∷ xs)) x
    by true is rest = subst (λ l. Contains l x) (sym (keeps-first test one xs is)) (elim (Contains-cons_cases one xs x there) [
      | inl same ↦ subst (Contains (one ∷ filter test xs)) same (Contains-first one (filter test xs))
      | inr more ↦ Contains-later one (filter test xs) x (rest more passes)
    ])
    by false is rest = subst (λ l. Contains l x) (sym (drops-first test one xs is)) (elim (Contains-cons_cases one xs x there) [
      | inl same ↦ absurd (true≢false (sym passes ∙ ap test (sym same) ∙ is))
      | inr more ↦ rest more passes
    ])

-- what stands somewhere
found-at : (ps : List (List ℕ)) (place : ℕ) → stands ps place ≡ true → (pattern : List ℕ) × IsPatternAt ps place pattern
found-at ps place is = by (slice_get ps place) refl is
  where
    by : (found : Option (List ℕ)) → slice_get ps place ≡ found → is_there found ≡ true → (pattern : List ℕ) × IsPatternAt ps place pattern
    by None at there = absurd (true≢false (sym there))
    by (Some pattern) at there = (pattern, at)

-- the places of the patterns that match, of the first ones alone
matching-front : (ps qs : List (List ℕ)) (path places : List ℕ) → AreMatching (ps ++ qs) path places → AreMatching ps path (filter (stands ps) places)
matching-front ps qs path places all place =
    let front : (pattern : List ℕ) → IsPatternAt ps place pattern → slice_get (ps ++ qs) place ≡ slice_get ps place =
    λ pattern at. slice_get-append ps qs place (slice_get_within ps place pattern at) in (
      (λ there.
          let kept = kept-there (stands ps) places place there in
          let own = found-at ps place kept.1 in
          let found = (all place).0 kept.0 in
          (found.0, sym (front own.0 own.1) ∙ found.1, found.2)),
      (λ found. there-kept (stands ps) places place ((all place).1 (found.0, front found.0 found.1 ∙ found.1, found.2)) (ap is_there found.1)),
    )

-- where the first of some patterns are those of rules on files, the rules that match a path stand at the file rules' places that the patterns' places pick
pub rules-found : (rules : List Rule) (more : List (List ℕ)) (path places : List ℕ)
    → ((path found : List ℕ) → AreMatching (file_patterns rules) path found → AreMatchingRules rules path (picked (places_from 0 rules) found))
    → AreMatching (file_patterns rules ++ more) path places
    → AreMatchingRules rules path (picked (places_from 0 rules) places)
rules-found rules more path places found all =
    let ps = file_patterns rules in
    let front = found path (filter (stands ps) places) (matching-front ps more path places all) in
    subst (AreMatchingRules rules path) (picked-kept (places_from 0 rules) (stands ps) (stands-alike 0 rules) places) front

-- the rules that match the path of an outcome stand at the file rules' places that its own pick, and these rise
pub outcome-rules : (rules : List Rule) (patterns unasked : List (List ℕ)) (classes : List ℕ) (o : Outcome)
    → ((path found : List ℕ) → AreMatching (file_patterns rules) path found → AreMatchingRules rules path (picked (places_from 0 rules) found))
    → ((found : List ℕ) → IsStrictlyIncreasing found → IsStrictlyIncreasing (picked (places_from 0 rules) found))
    → IsOutcome (telling_patterns rules patterns unasked) classes o
    → AreMatchingRules rules o.path.items (picked (places_from 0 rules) o.places.items) × IsStrictlyIncreasing (picked (places_from 0 rules) o.places.items)
outcome-rules rules patterns unasked classes o found rise is =
    let ps = file_patterns rules in
    let all : AreMatching (ps ++ (patterns ++ unasked)) o.path.items o.places.items =
    subst (λ l. AreMatching l o.path.items o.places.items) (append_assoc ps patterns unasked) is.matching in (
      rules-found rules (patterns ++ unasked) o.path.items o.places.items found all,
      rise o.places.items (λ k within. is.rise k (k + 1) 0 (omega arith) within),
    )

-- such places and the path, as they are held
pub matched-is : (matched : MatchedRules) (path places : List ℕ) → AreMatchingRules matched.rules.now path places × IsStrictlyIncreasing places
    → matched.places.now ≡ places → matched.path.now ≡ path → AreMatched matched
matched-is matched path places is same_places same_path = record {
  found = subst (λ p. AreMatchingRules matched.rules.now p matched.places.now) (sym same_path)
      (subst (AreMatchingRules matched.rules.now path) (sym same_places) is.0);
  rise = subst IsStrictlyIncreasing (sym same_places) is.1;
}
