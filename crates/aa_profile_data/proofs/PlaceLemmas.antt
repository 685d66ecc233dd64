-- Where file rules stand, and which of them match a path.
use Rattle.std.proofs.Common.{◌≡◌, ℕ, zero, suc, ◌+◌, ◌<◌, ◌≤◌, true, List, [], ◌∷◌, Option, None, Some, arith, ap, refl, ◌∙◌, inl, inr}
use Rattle.std.specs.Prelude.{◌⊎◌, slice_get}
use Rattle.std.specs.List.{Contains}
use Rattle.std.specs.List.Sorted.{IsStrictlyIncreasing}
use Rattle.std.proofs.lemmas.Option.{get_or_from_slice_get, slice_get-get_or, slice_get_within}
use Rattle.aa_glob_syntax.specs.Patterns.{AreMatching}
use Rattle.aa_glob_syntax.specs.Matching.{matches}
use Rattle.aa_glob_syntax.specs.Reading.{items_of}
use Rattle.aa_profile_data.specs.declared.profile.Rule.{Rule}
use Rattle.aa_profile_data.specs.declared.profile.Rule.TheVariants.{Cap, File, Net, Other}
use Rattle.aa_profile_data.proofs.PickedLemmas.{Contains-behind, Contains-first, Contains-split, Rises, Rises-from, Rises-lower, Rises-to}
use Rattle.aa_profile_data.specs.Matching.{AreMatchingRules, IsMatchingAt, is_matching}
use Rattle.aa_profile_data.specs.FileRules.{places_from, file_patterns}
use Rattle.aa_profile_data.specs.Picked.{picked}

-- the places rise
places-rise : (first : ℕ) (rules : List Rule) → Rises first (places_from first rules)
places-rise first [] = tt
places-rise first (File rule ∷ rules) = (omega arith, places-rise (first + 1) rules)
places-rise first (Cap rule ∷ rules) = Rises-lower first (first + 1) (places_from (first + 1) rules) (omega arith) (places-rise (first + 1) rules)
places-rise first (Net rule ∷ rules) = Rises-lower first (first + 1) (places_from (first + 1) rules) (omega arith) (places-rise (first + 1) rules)
places-rise first (Other rule ∷ rules) = Rises-lower first (first + 1) (places_from (first + 1) rules) (omega arith) (places-rise (first + 1) rules)

-- what rises is no less at a place than the least number and that place
at-least : (least : ℕ) (xs : List ℕ) (k x : ℕ) → Rises least xs → slice_get xs k ≡ Some x → least ≤ x
at-least least [] k x r is = absurd (cc)
at-least least (y ∷ ys) zero x r is = let l = r.0 in let same : y ≡ x = cc in omega arith
at-least least (y ∷ ys) (suc k) x r is = let l = r.0 in let rest = at-least (y + 1) ys k x r.1 is in omega arith

-- a later place has a greater number
later-more : (least : ℕ) (xs : List ℕ) (j k x y : ℕ) → Rises least xs → j < k → slice_get xs j ≡ Some x → slice_get xs k ≡ Some y → x < y
later-more least [] j k x y r h a b = absurd (cc)
later-more least (z ∷ zs) j zero x y r h a b = absurd (omega arith)
later-more least (z ∷ zs) zero (suc k) x y r h a b = let l = at-least (z + 1) zs k y r.1 b in let same : z ≡ x = cc in omega arith
later-more least (z ∷ zs) (suc j) (suc k) x y r h a b = later-more (z + 1) zs j k x y r.1 (omega arith) a b

-- what stands at rising places of what rises does as well
picked-rises : (xs : List ℕ) (from least : ℕ) (places : List ℕ) → Rises 0 xs → Rises from places
    → ((k x : ℕ) → from ≤ k → slice_get xs k ≡ Some x → least ≤ x)
    → Rises least (picked xs places)
picked-rises xs from least [] r p all = tt
picked-rises xs from least (place ∷ places) r p all = by (slice_get xs place) refl (λ least. picked-rises xs (place + 1) least places r p.1)
  where
    by : (found : Option ℕ) → slice_get xs place ≡ found
        → ((least : ℕ) → ((k x : ℕ) → place + 1 ≤ k → slice_get xs k ≡ Some x → least ≤ x) → Rises least (picked xs places))
        → Rises least (elim found [ None ↦ picked xs places | Some x ↦ x ∷ picked xs places ])
    by None e rest = rest least (λ k x within is. let l = p.0 in all k x (omega arith) is)
    by (Some x) e rest = (all place x p.0 e, rest (x + 1) (λ k y within is. let more = later-more 0 xs place k x y r (omega arith) e is in omega arith))

-- what stands at a place of a list
pub Contains-from_get : {X : Type 0} (xs : List X) (k : ℕ) (x : X) → slice_get xs k ≡ Some x → Contains xs x
Contains-from_get xs k x is = (k, slice_get_within xs k x is, get_or_from_slice_get xs k x x is)

pub Contains-to_get : {X : Type 0} (xs : List X) (x : X) → Contains xs x → (k : ℕ) × (slice_get xs k ≡ Some x)
Contains-to_get xs x (k, within, is) = (k, slice_get-get_or xs k x within ∙ ap Some is)

-- what was picked stands at one of the places, and the other way round
pub picked-from : {X : Type 0} (xs : List X) (places : List ℕ) (x : X) → Contains (picked xs places) x
    → (place : ℕ) × Contains places place × (slice_get xs place ≡ Some x)
picked-from xs [] x there = let w = there.1 in absurd (omega arith)
picked-from xs (place ∷ places) x there = by (slice_get xs place) refl there (picked-from xs places x)
  where
    Rest : Type 0
    Rest = Contains (picked xs places) x → (other : ℕ) × Contains places other × (slice_get xs other ≡ Some x)

    later : Rest → Contains (picked xs places) x → (other : ℕ) × Contains (place ∷ places) other × (slice_get xs other ≡ Some x)
    later rest behind = let (other, among, is) = rest behind in (other, Contains-behind place places other among, is)

    by : (found : Option _) → slice_get xs place ≡ found → Contains (elim found [ None ↦ picked xs places | Some y ↦ y ∷ picked xs places ]) x → Rest
        → (other : ℕ) × Contains (place ∷ places) other × (slice_get xs other ≡ Some x)
    by None e there rest = later rest there
    by (Some y) e there rest = elim (Contains-split y (picked xs places) x there) [
      | inl same ↦ (place, Contains-first place places, e ∙ ap Some same)
      | inr behind ↦ later rest behind
    ]

pub picked-has : {X : Type 0} (xs : List X) (places : List ℕ) (x : X) (place : ℕ) → Contains places place → slice_get xs place ≡ Some x → Contains (picked xs places) x
picked-has xs [] x place there is = let w = there.1 in absurd (omega arith)
picked-has xs (first ∷ places) x place there is =
    by (slice_get xs first) refl (elim (Contains-split first places place there) [ inl same ↦ inl same | inr behind ↦ inr (picked-has xs places x place behind is) ])
  where
    by : (found : Option _) → slice_get xs first ≡ found → (first ≡ place) ⊎ Contains (picked xs places) x
        → Contains (elim found [ None ↦ picked xs places | Some y ↦ y ∷ picked xs places ]) x
    by None e (inl same) = let here : slice_get xs first ≡ Some x = ap (slice_get xs) same ∙ is in absurd (cc)
    by None e (inr behind) = behind
    by (Some y) e (inl same) =
        let here : slice_get xs first ≡ Some x = ap (slice_get xs) same ∙ is in
        let one : y ≡ x = cc in
        rw one (Contains-first x (picked xs places))
    by (Some y) e (inr behind) = Contains-behind y (picked xs places) x behind

-- where a file rule stands among all rules, and its pattern among the patterns
abbrev StandsAt : ℕ → List Rule → ℕ → List ℕ → Type 0
StandsAt first rules place pattern = (at : ℕ) × (place ≡ first + at) × (rule : Rule) × (slice_get rules at ≡ Some rule) × ((path : List ℕ) → is_matching path rule ≡ matches (items_of pattern) path)

behind-stands : (first : ℕ) (one : Rule) (rules : List Rule) (place : ℕ) (pattern : List ℕ) → StandsAt (first + 1) rules place pattern → StandsAt first (one ∷ rules) place pattern
behind-stands first one rules place pattern (at, is, rule, there, same) = (suc at, omega arith, rule, there, same)

stands-at : (first : ℕ) (rules : List Rule) (k place : ℕ) (pattern : List ℕ) → slice_get (places_from first rules) k ≡ Some place → slice_get (file_patterns rules) k ≡ Some pattern
    → StandsAt first rules place pattern
stands-at first [] k place pattern p is = absurd (cc)
stands-at first (File rule ∷ rules) zero place pattern p is =
    let here : first ≡ place = cc in
    let same : rule.pattern ≡ pattern = cc in
    (0, omega arith, File rule, refl, λ path. ap (λ pattern. matches (items_of pattern) path) same)
stands-at first (File rule ∷ rules) (suc k) place pattern p is = behind-stands first (File rule) rules place pattern (stands-at (first + 1) rules k place pattern p is)
stands-at first (Cap rule ∷ rules) k place pattern p is = behind-stands first (Cap rule) rules place pattern (stands-at (first + 1) rules k place pattern p is)
stands-at first (Net rule ∷ rules) k place pattern p is = behind-stands first (Net rule) rules place pattern (stands-at (first + 1) rules k place pattern p is)
stands-at first (Other rule ∷ rules) k place pattern p is = behind-stands first (Other rule) rules place pattern (stands-at (first + 1) rules k place pattern p is)

-- a rule that matches has its place and its pattern at one place
abbrev IsTold : ℕ → List Rule → List ℕ → ℕ → Type 0
IsTold first rules path place =
    (k : ℕ) × (pattern : List ℕ) × (slice_get (places_from first rules) k ≡ Some place) × (slice_get (file_patterns rules) k ≡ Some pattern) × (matches (items_of pattern) path ≡ true)

told-later : (first : ℕ) (one : Rule) (rules : List Rule) (path : List ℕ) (place : ℕ) → IsTold (first + 1) rules path place → IsTold first (one ∷ rules) path place
told-later first (File rule) rules path place (k, pattern, is, there, m) = (suc k, pattern, is, there, m)
told-later first (Cap rule) rules path place told = told
told-later first (Net rule) rules path place told = told
told-later first (Other rule) rules path place told = told

is-told : (first : ℕ) (rules : List Rule) (path : List ℕ) (at : ℕ) (rule : Rule) → slice_get rules at ≡ Some rule → is_matching path rule ≡ true → IsTold first rules path (first + at)
is-told first [] path at rule is m = absurd (cc)
is-told first (one ∷ rules) path zero rule is m = here one (let same : one ≡ rule = cc in rw same m)
  where
    plain : first ≡ first + 0
    plain = omega arith

    here : (one : Rule) → is_matching path one ≡ true → IsTold first (one ∷ rules) path (first + 0)
    here (File rule) m = (0, rule.pattern, ap Some plain, refl, m)
    here (Cap rule) m = absurd (cc)
    here (Net rule) m = absurd (cc)
    here (Other rule) m = absurd (cc)
is-told first (one ∷ rules) path (suc at) rule is m =
    let plain : (first + 1) + at ≡ first + suc at = omega arith in
    told-later first one rules path (first + suc at) (rw plain at (is-told (first + 1) rules path at rule is m))

-- The patterns that match are those of the rules that do.
pub rules-found : (rules : List Rule) (path found : List ℕ) → AreMatching (file_patterns rules) path found → AreMatchingRules rules path (picked (places_from 0 rules) found)
rules-found rules path found are place = (sound, complete)
  where
    sound : Contains (picked (places_from 0 rules) found) place → IsMatchingAt rules path place
    sound there =
        let (k, among, is) = picked-from (places_from 0 rules) found place there in
        let (pattern, at, m) = (are k).0 among in
        let (spot, same, rule, stands, matching) = stands-at 0 rules k place pattern is at in
        (rule, (let here : place ≡ spot = omega arith in ap (slice_get rules) here ∙ stands), matching path ∙ m)

    complete : IsMatchingAt rules path place → Contains (picked (places_from 0 rules) found) place
    complete (rule, at, m) =
        let (k, pattern, is, there, matching) = is-told 0 rules path place rule at m in
        let plain : 0 + place ≡ place = omega arith in
        picked-has (places_from 0 rules) found place k ((are k).1 (pattern, there, matching)) (is ∙ ap Some plain)

pub rules-rise : (rules : List Rule) (found : List ℕ) → IsStrictlyIncreasing found → IsStrictlyIncreasing (picked (places_from 0 rules) found)
rules-rise rules found inc =
    Rises-to 0 (picked (places_from 0 rules) found)
    (picked-rises (places_from 0 rules) 0 0 found (places-rise 0 rules) (Rises-from found inc) (λ k x within is. omega arith))
