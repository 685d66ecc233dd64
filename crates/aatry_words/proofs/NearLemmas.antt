-- The search for the nearest name finds it.
use Rattle.std.proofs.Common.{◌≡◌, ℕ, ◌+◌, ◌<◌, ◌≤◌, Bool, true, false, List, [], ◌∷◌, ◌++◌, length, map, refl, sym, subst, ap, ◌∙◌, arith, append_assoc, append-nil}
use Rattle.std.specs.Prelude.{All, Option, None, Some, if◌then◌else◌, nat_lt}
use Rattle.std.proofs.lemmas.List.Elements.{All-append, All-cons, All-nil, All-push, All-same, All-weaker}
use borrow.Author.Tests.{ltb-true, ltb-false}
use Rattle.aatry_words.specs.Near.{IsNearest, SoFar, begun, behind_all, distance, most_changes, nearest, with_next}

-- the nearest of the names that were passed, and below how many changes another is nearer
abbrev Stands : List ℕ → List (List ℕ) → Option (List ℕ) → ℕ → Type 0
Stands word passed None below = (below ≡ most_changes word + 1) × IsNearest passed word None
Stands word passed (Some found) below = (below ≡ distance word found) × IsNearest passed word (Some found)

abbrev StandsAt : List ℕ → List (List ℕ) → SoFar → Type 0
StandsAt word passed so_far = Stands word passed so_far.nearest so_far.below

-- no name that was passed is nearer than the nearest
none_nearer : (word : List ℕ) (passed : List (List ℕ)) (found : List ℕ) → IsNearest passed word (Some found)
    → All (λ name. distance word found ≤ distance word name) passed
none_nearer word passed found h =
    let P : List ℕ → Type 0 = λ name. distance word found ≤ distance word name in
    let Q : List ℕ → Type 0 = λ name. distance word found < distance word name in
    let weaker : (name : List ℕ) → Q name → P name = λ name lt. omega arith in
    let itself : P found = omega arith in
    All-same P passed (h.0 ++ found ∷ h.1) h.2 (All-append P h.0 (found ∷ h.1) (All-weaker Q P weaker h.0 h.4) (All-cons P found h.1 itself h.5))

-- the first near name
first_near : (word : List ℕ) (passed : List (List ℕ)) (name : List ℕ) → IsNearest passed word None → distance word name < most_changes word + 1
    → IsNearest (passed ++ name ∷ []) word (Some name)
first_near word passed name none lt =
    let P : List ℕ → Type 0 = λ other. most_changes word < distance word other in
    let Q : List ℕ → Type 0 = λ other. distance word name < distance word other in
    let weaker : (other : List ℕ) → P other → Q other = λ other h. omega arith in
    (passed, [], refl, omega arith, All-weaker P Q weaker passed none, All-nil (λ other. distance word name ≤ distance word other))

-- a nearer one
nearer : (word : List ℕ) (passed : List (List ℕ)) (found name : List ℕ) → IsNearest passed word (Some found) → distance word name < distance word found
    → IsNearest (passed ++ name ∷ []) word (Some name)
nearer word passed found name h lt =
    let P : List ℕ → Type 0 = λ other. distance word found ≤ distance word other in
    let Q : List ℕ → Type 0 = λ other. distance word name < distance word other in
    let weaker : (other : List ℕ) → P other → Q other = λ other k. omega arith in
    let near : distance word found ≤ most_changes word = h.3 in
    (passed, [], refl, omega arith, All-weaker P Q weaker passed (none_nearer word passed found h), All-nil (λ other. distance word name ≤ distance word other))

-- one that is no nearer
no_nearer : (word : List ℕ) (passed : List (List ℕ)) (found name : List ℕ) → IsNearest passed word (Some found) → distance word found ≤ distance word name
    → IsNearest (passed ++ name ∷ []) word (Some found)
no_nearer word passed found name h le = (
  h.0,
  h.1 ++ name ∷ [],
  ap (λ names. names ++ name ∷ []) h.2 ∙ append_assoc h.0 (found ∷ h.1) (name ∷ []),
  h.3,
  h.4,
  All-push (λ other. distance word found ≤ distance word other) h.1 name h.5 le,
)

-- one name further
one_more : (word : List ℕ) (passed : List (List ℕ)) (so_far : SoFar) (name : List ℕ) → StandsAt word passed so_far
    → StandsAt word (passed ++ name ∷ []) (with_next word so_far name)
one_more word passed so_far name h = by so_far.nearest so_far.below (nat_lt (distance word name) so_far.below) refl h
  where
    by : (nearest : Option (List ℕ)) (below : ℕ) (test : Bool) → nat_lt (distance word name) below ≡ test → Stands word passed nearest below
        → StandsAt word (passed ++ name ∷ []) (if test then record { nearest = Some name; below = distance word name } else record { nearest = nearest; below = below })
    by None below true e h = let lt = ltb-true _ _ e in (refl, first_near word passed name h.1 (omega arith))
    by None below false e h =
        let le = ltb-false _ _ e in
        let far : most_changes word < distance word name = omega arith in
        (h.0, All-push (λ other. most_changes word < distance word other) passed name h.1 far)
    by (Some found) below true e h = let lt = ltb-true _ _ e in (refl, nearer word passed found name h.1 (omega arith))
    by (Some found) below false e h = let le = ltb-false _ _ e in (h.0, no_nearer word passed found name h.1 (omega arith))

-- behind all names
stands_behind : (word : List ℕ) (passed : List (List ℕ)) (so_far : SoFar) → StandsAt word passed so_far → (names : List (List ℕ))
    → StandsAt word (passed ++ names) (behind_all word so_far names)
stands_behind word passed so_far h [] = subst (λ all. StandsAt word all so_far) (sym (append-nil passed)) h
stands_behind word passed so_far h (name ∷ names) =
    subst (λ all. StandsAt word all (behind_all word (with_next word so_far name) names)) (append_assoc passed (name ∷ []) names)
    (stands_behind word (passed ++ name ∷ []) (with_next word so_far name) (one_more word passed so_far name h) names)

-- The search that begins ahead of these names ends at the nearest.
pub nearest_is : (word : List ℕ) (names : List (List ℕ)) → IsNearest names word (nearest word names)
unfolding nearest
nearest_is word names =
    let ends = behind_all word (begun word) names in
    by ends.nearest ends.below (stands_behind word [] (begun word) (refl, All-nil (λ other. most_changes word < distance word other)) names)
  where
    by : (found : Option (List ℕ)) (below : ℕ) → Stands word names found below → IsNearest names word found
    by None below h = h.1
    by (Some found) below h = h.1

-- at the end of no more names it stays where it is
pub at_no_more : {A : Type 0} (text : A → List ℕ) (word : List ℕ) (so_far : SoFar) (rest : List A) → length rest < 1 → behind_all word so_far (map text rest) ≡ so_far
at_no_more text word so_far [] h = refl
at_no_more text word so_far (name ∷ names) h = absurd (omega arith)
