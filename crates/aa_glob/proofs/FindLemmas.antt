-- The tree finds the beginnings as they come.
use Rattle.std.proofs.Common.{◌≡◌, ℕ, ◌+◌, ◌<◌, ◌≤◌, ◌==◌, ◌&&◌, true, false, List, [], ◌∷◌, ◌++◌, length, refl, sym, ap, ◌∙◌, subst, inl, inr, ◌⊎◌, arith}
use Rattle.std.specs.Prelude.{Contains, None, Some, if◌then◌else◌}
use Rattle.std.proofs.lemmas.Bool.{and_parts, cases_Bool, cases_lt, cond-true, cond-false, eqb-true, eq-eqb}
use Rattle.std.proofs.lemmas.List.{get_or_append_left, get_or_at, get_or_default, length-append}
use Rattle.aa_glob.specs.Grown.{Finds, GoesOn}
use Rattle.aa_glob.specs.Numbers.{AreKept, most_number, number_of}
use Rattle.aa_glob.proofs.NumberLemmas.{numbers-apart}
use Rattle.aa_glob.specs.Drawn.{trail_at}
use Rattle.aa_glob_syntax.specs.Elements.{Element}
use Rattle.aa_glob_pattern.specs.Beginnings.{AreApart}
use Rattle.aa_glob_pattern.specs.Trails.{Trail}
use Rattle.aa_glob.specs.Tree.{HasOneMore, Ways, next, places}

-- one trail behind others leaves them as they are
pub goes_on-push : (trails : List Trail) (trail : Trail) → GoesOn trails (trails ++ trail ∷ [])
goes_on-push trails trail = record {
  longer = λ q within. let long = length-append trails (trail ∷ []) in omega arith;
  same = λ q within. get_or_append_left trails (trail ∷ []) [] q within;
}

pub goes_on-same : (trails : List Trail) → GoesOn trails trails
goes_on-same trails = record { longer = λ q within. within; same = λ q within. refl }

-- the one behind
pub last_trail : (trails : List Trail) (trail : Trail) → trail_at (trails ++ trail ∷ []) (length trails) ≡ trail
last_trail trails trail = get_or_at trails trail [] [] (length trails) refl

-- two elements in front of two trails
same_first : (e f : Element) (s t : Trail) → e ∷ s ≡ f ∷ t → e ≡ f
same_first e f s t is = cc

same_rest : (e f : Element) (s t : Trail) → e ∷ s ≡ f ∷ t → s ≡ t
same_rest e f s t is = cc

-- what is found is the state of the trail that was asked for
pub found_is : (ways : Ways) (keys : List (List ℕ)) (trails : List Trail) → Finds ways keys trails
    → (e : Element) (p n q : ℕ) → n < most_number → number_of keys e ≡ Some n → next ways p n ≡ Some q
    → (q < length trails) × (trail_at trails q ≡ e ∷ trail_at trails p)
found_is ways keys trails finds e p n q small number found =
    let told = finds.found p n q small found in
    (told.3, told.4 ∙ ap (λ f. f ∷ trail_at trails p) (numbers-apart keys told.0 e n told.1 number))

-- where nothing is found there is none
pub none_is : (ways : Ways) (keys : List (List ℕ)) (trails : List Trail) → Finds ways keys trails → AreApart trails
    → (e : Element) (p n : ℕ) → p < length trails → number_of keys e ≡ Some n → next ways p n ≡ None
    → Contains trails (e ∷ trail_at trails p) → ⊥
none_is ways keys trails finds apart e p n within number none (q, inside, is) =
    let there : trail_at trails q ≡ e ∷ trail_at trails p = get_or_default trails q [] (e ∷ trail_at trails p) inside ∙ is in
    let told = finds.all q e (trail_at trails p) inside there in
    let place : told.0 ≡ p = apart told.0 p told.2 within told.3 in
    let same : told.1 ≡ n = let some = sym told.5 ∙ number in cc in
    let found : next ways p n ≡ Some q = subst (λ (x : ℕ). next ways x n ≡ Some q) place (subst (λ (x : ℕ). next ways told.0 x ≡ Some q) same told.6) in
    let never : None ≡ Some q = sym none ∙ found in
    absurd cc

-- more numbers change nothing
pub finds_numbered : (ways : Ways) (old new : List (List ℕ)) (trails : List Trail) → Finds ways old trails → AreKept old new → Finds ways new trails
finds_numbered ways old new trails finds kept = record {
  places = finds.places;
  found = λ p n q small found. let told = finds.found p n q small found in (told.0, kept told.0 n told.1, told.2, told.3, told.4);
  all = λ q e trail within is. let told = finds.all q e trail within is in (told.0, told.1, told.2, told.3, told.4, kept e told.1 told.5, told.6);
}

-- one more place in the tree, and one more trail
pub finds_more : (old new : Ways) (keys : List (List ℕ)) (trails : List Trail) (e : Element) (p n : ℕ)
    → Finds old keys trails → HasOneMore old p n new → places new ≡ places old + 1
    → n < most_number → number_of keys e ≡ Some n → p < length trails → next old p n ≡ None
    → Finds new keys (trails ++ (e ∷ trail_at trails p) ∷ [])
finds_more old new keys trails e p n finds more count small number within free = record {
  places = count ∙ ap (λ m. m + 1) finds.places ∙ sym long;
  found = λ p' n' q s told. found' p' n' q s (sym (more p' n' s) ∙ told) (cases_Bool (p' == p && n' == n));
  all = λ q f trail inside is. all' q f trail is (cases_lt q (length trails)) inside;
}
  where
    long : length (trails ++ (e ∷ trail_at trails p) ∷ []) ≡ length trails + 1
    long = length-append trails ((e ∷ trail_at trails p) ∷ [])

    on : GoesOn trails (trails ++ (e ∷ trail_at trails p) ∷ [])
    on = goes_on-push trails (e ∷ trail_at trails p)

    apart : (p' n' q : ℕ) → next old p' n' ≡ Some q → ((p' == p && n' == n) ≡ true) ⊎ ((p' == p && n' == n) ≡ false) → (p' == p && n' == n) ≡ false
    apart p' n' q told (inr other) = other
    apart p' n' q told (inl here) =
        let both = and_parts (p' == p) (n' == n) here in
        let never : Some q ≡ None = sym told ∙ ap (λ x. next old x n') (eqb-true p' p both.0) ∙ ap (next old p) (eqb-true n' n both.1) ∙ free in
        absurd cc

    found' : (p' n' q : ℕ) → n' < most_number → (if p' == p && n' == n then Some (places old) else next old p' n') ≡ Some q
        → ((p' == p && n' == n) ≡ true) ⊎ ((p' == p && n' == n) ≡ false)
        → (f : Element) × (number_of keys f ≡ Some n') × (p' < length (trails ++ (e ∷ trail_at trails p) ∷ [])) × (q < length (trails ++ (e ∷ trail_at trails p) ∷ []))
        × (trail_at (trails ++ (e ∷ trail_at trails p) ∷ []) q ≡ f ∷ trail_at (trails ++ (e ∷ trail_at trails p) ∷ []) p')
    found' p' n' q s told (inl here) =
        let both = and_parts (p' == p) (n' == n) here in
        let place : p' ≡ p = eqb-true p' p both.0 in
        let same : n' ≡ n = eqb-true n' n both.1 in
        let some : Some (places old) ≡ Some q = sym (cond-true (p' == p && n' == n) (Some (places old)) (next old p' n') here) ∙ told in
        let last : q ≡ length trails = let is : places old ≡ q = cc in sym is ∙ finds.places in (
          e,
          number ∙ ap Some (sym same),
          on.longer p' (let there : p' < length trails = omega (arith, place, within) in there),
          omega (arith, last, long),
          ap (trail_at (trails ++ (e ∷ trail_at trails p) ∷ [])) last ∙ last_trail trails (e ∷ trail_at trails p) ∙ ap (λ t. e ∷ t) (sym (on.same p within) ∙ ap (trail_at (trails ++ (e ∷ trail_at trails p) ∷ [])) (sym place)),
        )
    found' p' n' q s told (inr other) =
        let before = finds.found p' n' q s (sym (cond-false (p' == p && n' == n) (Some (places old)) (next old p' n') other) ∙ told) in
        (before.0, before.1, on.longer p' before.2, on.longer q before.3, on.same q before.3 ∙ before.4 ∙ ap (λ t. before.0 ∷ t) (sym (on.same p' before.2)))

    all' : (q : ℕ) (f : Element) (trail : Trail) → trail_at (trails ++ (e ∷ trail_at trails p) ∷ []) q ≡ f ∷ trail → (q < length trails) ⊎ (length trails ≤ q)
        → q < length (trails ++ (e ∷ trail_at trails p) ∷ [])
        → (p' n' : ℕ) × (p' < length (trails ++ (e ∷ trail_at trails p) ∷ [])) × (trail_at (trails ++ (e ∷ trail_at trails p) ∷ []) p' ≡ trail) × (n' < most_number) × (number_of keys f ≡ Some n') × (next new p' n' ≡ Some q)
    all' q f trail is (inl there) inside =
        let before = finds.all q f trail there (sym (on.same q there) ∙ is) in
        let elsewhere : (before.0 == p && before.1 == n) ≡ false = apart before.0 before.1 q before.6 (cases_Bool (before.0 == p && before.1 == n)) in (
          before.0,
          before.1,
          on.longer before.0 before.2,
          on.same before.0 before.2 ∙ before.3,
          before.4,
          before.5,
          more before.0 before.1 before.4 ∙ cond-false (before.0 == p && before.1 == n) (Some (places old)) (next old before.0 before.1) elsewhere ∙ before.6,
        )
    all' q f trail is (inr above) inside =
        let last : q ≡ length trails = omega (arith, above, inside, long) in
        let ends : e ∷ trail_at trails p ≡ f ∷ trail = sym (last_trail trails (e ∷ trail_at trails p)) ∙ ap (trail_at (trails ++ (e ∷ trail_at trails p) ∷ [])) (sym last) ∙ is in
        let here : (p == p && n == n) ≡ true = rw (eq-eqb p p refl) (rw (eq-eqb n n refl) refl) in (
          p,
          n,
          on.longer p within,
          on.same p within ∙ same_rest e f (trail_at trails p) trail ends,
          small,
          ap (number_of keys) (sym (same_first e f (trail_at trails p) trail ends)) ∙ number,
          more p n small ∙ cond-true (p == p && n == n) (Some (places old)) (next old p n) here ∙ ap Some (finds.places ∙ sym last),
        )
