-- What a list contains, and which part of it has a key.
use Rattle.std.proofs.Common.{◌≡◌, ℕ, zero, suc, ◌+◌, ◌-◌, ◌<◌, ◌≤◌, ◌⊎◌, List, [], ◌∷◌, length, map, take, drop, get_or, refl, ◌∙◌, ap, subst, inl, inr, arith}
use Rattle.std.proofs.lemmas.Bool.{cases_lt}
use Rattle.std.proofs.lemmas.List.Elements.{Contains-get_or}
use Rattle.std.specs.List.{AllWithin}
use Rattle.std.proofs.lemmas.List.{get_or-map, length-map, get_or-take, get_or-drop, length-take, length-drop}
use Rattle.std.specs.Prelude.{All, Contains, Some}

-- equal elements that were found are equal
pub some_same : (c d : ℕ) → Some c ≡ Some d → c ≡ d
some_same c d e = cc

-- the first element, or one of the others
pub Contains-cons_cases : {X : Type 0} → (x : X) (xs : List X) (y : X) → Contains (x ∷ xs) y → (x ≡ y) ⊎ Contains xs y
Contains-cons_cases x xs y (zero, h, e) = inl e
Contains-cons_cases x xs y (suc k, h, e) = inr (k, omega arith, e)

pub Contains-first : {X : Type 0} → (x : X) (xs : List X) → Contains (x ∷ xs) x
Contains-first x xs = (0, omega arith, refl)

pub Contains-later : {X : Type 0} → (x : X) (xs : List X) (y : X) → Contains xs y → Contains (x ∷ xs) y
Contains-later x xs y h = let within : suc h.0 < length (x ∷ xs) = omega (arith, h.1) in (suc h.0, within, h.2)

-- what is made of an element is among what is made of the list
pub Contains-map : {X Y : Type 0} → (f : X → Y) (xs : List X) (x : X) → Contains xs x → Contains (map f xs) (f x)
Contains-map f xs x h =
    let within : h.0 < length (map f xs) = omega (arith, length-map xs f, h.1) in
    (h.0, within, get_or-map f xs h.0 x (f x) h.1 ∙ ap f h.2)

pub Contains-map_cases : {X Y : Type 0} → (f : X → Y) (xs : List X) (y : Y) → Contains (map f xs) y → (x : X) × Contains xs x × (f x ≡ y)
Contains-map_cases f [] y h = absurd (omega (arith, h.1))
Contains-map_cases f (x ∷ xs) y h =
    elim (Contains-cons_cases (f x) (map f xs) y h) [
      | inl e ↦ (x, Contains-first x xs, e)
      | inr more ↦ let found = Contains-map_cases f xs y more in (found.0, Contains-later x xs found.0 found.1, found.2)
    ]

-- the part of a list between two places, of which the first is where keys from one on begin, and the second the same for the next key
pub bounds_by : {X : Type 0} → (key : X → ℕ) (xs : List X) (x : X) (n start end : ℕ) → start ≤ length xs → AllWithin (λ x. key x < n) xs 0 start
    → AllWithin (λ x. n + 1 ≤ key x) xs end (length xs) → start ≤ end
bounds_by key xs x n start end within before behind =
    elim (cases_lt end start) [
      | inl past ↦ let low = before end x (omega arith) past in let high = behind end x (omega arith) (omega arith) in absurd (omega arith)
      | inr fine ↦ fine
    ]

pub only_by : {X : Type 0} → (key : X → ℕ) (xs : List X) (n start end : ℕ) → start ≤ end → end ≤ length xs
    → AllWithin (λ x. key x < n + 1) xs 0 end → AllWithin (λ x. n ≤ key x) xs start (length xs)
    → All (λ x. Contains xs x × (key x ≡ n)) (take (end - start) (drop start xs))
only_by key xs n start end up within before behind k d h =
    let inside : k < end - start = omega (arith, length-take (end - start) (drop start xs)) in
    let at : start + k < length xs = omega arith in
    let x = get_or xs (start + k) d in
    let is : get_or (take (end - start) (drop start xs)) k d ≡ x = get_or-take (end - start) (drop start xs) k d inside ∙ get_or-drop start xs k d in
    let high : key x < n + 1 = before (start + k) d (omega arith) (omega arith) in
    let low : n ≤ key x = behind (start + k) d (omega arith) at in
    let same : key x ≡ n = omega arith in
    rw is (Contains-get_or xs (start + k) d at, same)

pub each_by : {X : Type 0} → (key : X → ℕ) (xs : List X) (n start end : ℕ) → end ≤ length xs
    → AllWithin (λ x. key x < n) xs 0 start → AllWithin (λ x. n + 1 ≤ key x) xs end (length xs)
    → (x : X) → Contains xs x → key x ≡ n → Contains (take (end - start) (drop start xs)) x
each_by key xs n start end within before behind x (k, low, here) same =
    let from_start : start ≤ k = elim (cases_lt k start) [
      | inl early ↦ let below : key x < n = subst (λ y. key y < n) here (before k x (omega arith) early) in absurd (omega arith)
      | inr fine ↦ fine
    ] in
    let to_end : k < end = elim (cases_lt k end) [
      | inl fine ↦ fine
      | inr late ↦ let above : n + 1 ≤ key x = subst (λ y. n + 1 ≤ key y) here (behind k x late low) in absurd (omega arith)
    ] in
    let inside : k - start < length (take (end - start) (drop start xs)) = omega (arith, length-take (end - start) (drop start xs), length-drop start xs) in
    let back : start + (k - start) ≡ k = omega arith in
    let is : get_or (take (end - start) (drop start xs)) (k - start) x ≡ x =
    get_or-take (end - start) (drop start xs) (k - start) x (omega arith) ∙ get_or-drop start xs (k - start) x ∙ ap (λ i. get_or xs i x) back ∙ here in
    (k - start, inside, is)
