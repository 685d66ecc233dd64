-- A stable sort gives what putting each value among those before it gives: by any test of an order.
use Rattle.std.proofs.Common.{◌≡◌, ℕ, suc, ◌<◌, ◌≤◌, Bool, true, false, not, ◌&&◌, cond, List, [], ◌∷◌, ◌++◌, length, get_or, append-nil, refl, sym, ap, ◌∙◌, arith}
use Rattle.std.specs.Prelude.{⊤, if◌then◌else◌}
use Rattle.std.specs.Cmp.{IsStrictWeakOrder}
use Rattle.std.specs.List.{filter}
use Rattle.std.specs.List.Sorted.{IsSortedBy, ties}
use Rattle.std.proofs.lemmas.List.Elements.{filter-append}
use Rattle.std.proofs.lemmas.List.Sorted.{sorted_far}

module _ {X : Type 0} (lt : X → X → Bool) where
  -- a value among others, before the first that it comes before
  abbrev pub put : X → List X → List X
  put x [] = x ∷ []
  put x (y ∷ ys) = if lt x y then x ∷ y ∷ ys else y ∷ put x ys

  -- none of these comes before x
  abbrev pub Above : X → List X → Type 0
  Above x [] = ⊤
  Above x (y ∷ ys) = (lt y x ≡ false) × Above x ys

  -- none comes before one that stands in front of it
  abbrev pub Up : List X → Type 0
  Up [] = ⊤
  Up (x ∷ xs) = Above x xs × Up xs

  -- x comes before each of these
  abbrev Beyond : X → List X → Type 0
  Beyond x [] = ⊤
  Beyond x (y ∷ ys) = (lt x y ≡ true) × Beyond x ys

  -- for each value, those that tie with it are the same in both, in the same order
  abbrev pub SameTies : List X → List X → Type 0
  SameTies xs ys = (x : X) → filter (ties lt x) xs ≡ filter (ties lt x) ys

  Above-from : (x : X) (xs : List X) → ((k : ℕ) → k < length xs → lt (get_or xs k x) x ≡ false) → Above x xs
  Above-from x [] h = tt
  Above-from x (y ∷ ys) h = (h 0 (omega arith), Above-from x ys (λ k p. h (suc k) (omega arith)))

  Up-from : (xs : List X) → ((i j : ℕ) (d : X) → i ≤ j → j < length xs → lt (get_or xs j d) (get_or xs i d) ≡ false) → Up xs
  Up-from [] h = tt
  Up-from (x ∷ xs) h = (Above-from x xs (λ k p. h 0 (suc k) x (omega arith) (omega arith)), Up-from xs (λ i j d p q. h (suc i) (suc j) d (omega arith) (omega arith)))

  Above-put : (x y : X) (ys : List X) → lt y x ≡ false → Above x ys → Above x (put y ys)
  Above-put x y [] h above = (h, tt)
  Above-put x y (z ∷ zs) h above = by (lt y z) refl (Above-put x y zs h above.1)
    where
      by : (b : Bool) → lt y z ≡ b → Above x (put y zs) → Above x (put y (z ∷ zs))
      by true e rest = rw e (h, above)
      by false e rest = rw e (above.0, rest)

  -- what ties with none of these isn't among those that tie with it
  none-ties : (x : X) (ys : List X) → Beyond x ys → filter (ties lt x) ys ≡ []
  none-ties x [] h = refl
  none-ties x (y ∷ ys) h = rw h.0 (none-ties x ys h.1)

  module _ (order : IsStrictWeakOrder lt) where
    pub Up-sorted : (xs : List X) → IsSortedBy lt xs → Up xs
    Up-sorted xs sorted = Up-from xs (sorted_far lt order xs sorted)

    before-itself : (x : X) → lt x x ≡ false
    before-itself x = by (lt x x) refl
      where
        by : (b : Bool) → lt x x ≡ b → lt x x ≡ false
        by true e = order.one_way x x e
        by false e = e

    ties-itself : (x : X) → ties lt x x ≡ true
    ties-itself x = rw (before-itself x) refl

    Above-chain : (x y : X) (zs : List X) → lt y x ≡ false → Above y zs → Above x zs
    Above-chain x y [] h above = tt
    Above-chain x y (z ∷ zs) h above = (order.chain z y x above.0 h, Above-chain x y zs h above.1)

    -- before what is no lower, too
    before-more : (x y z : X) → lt x y ≡ true → lt z y ≡ false → lt x z ≡ true
    before-more x y z before above = by (lt x z) refl
      where
        by : (b : Bool) → lt x z ≡ b → lt x z ≡ true
        by true e = e
        by false e = let not_before = order.chain x z y e above in cc

    -- and what ties with it is so too
    before-tied : (x y z : X) → ties lt x y ≡ true → lt y z ≡ true → lt x z ≡ true
    before-tied x y z tied before = by (lt x z) refl (lt y x) refl
      where
        by : (b : Bool) → lt x z ≡ b → (c : Bool) → lt y x ≡ c → lt x z ≡ true
        by true e c f = e
        by false e false f = let not_before = order.chain y x z f e in cc
        by false e true f = let never : not (lt x y) && false ≡ true = rw f at tied in absurd (neither (lt x y) never)
          where
            neither : (b : Bool) → not b && false ≡ true → ⊥
            neither true h = cc
            neither false h = cc

    Beyond-above : (x y : X) (ys : List X) → lt x y ≡ true → Above y ys → Beyond x ys
    Beyond-above x y [] before above = tt
    Beyond-above x y (z ∷ zs) before above = (before-more x y z before above.0, Beyond-above x y zs before above.1)

    pub Up-put : (x : X) (ys : List X) → Up ys → Up (put x ys)
    Up-put x [] up = (tt, tt)
    Up-put x (y ∷ ys) up = by (lt x y) refl (Up-put x ys up.1)
      where
        by : (b : Bool) → lt x y ≡ b → Up (put x ys) → Up (put x (y ∷ ys))
        by true e rest = rw e ((order.one_way x y e, Above-chain x y ys (order.one_way x y e) up.0), up)
        by false e rest = rw e (Above-put y x ys e up.0, rest)

    -- a value that is put among others stands behind those that tie with it
    pub put-ties : (x : X) (ys : List X) → Up ys → SameTies (put x ys) (ys ++ x ∷ [])
    put-ties x [] up z = refl
    put-ties x (y ∷ ys) up z = by (lt x y) refl (put-ties x ys up.1 z)
      where
        by : (b : Bool) → lt x y ≡ b → filter (ties lt z) (put x ys) ≡ filter (ties lt z) (ys ++ x ∷ [])
            → filter (ties lt z) (put x (y ∷ ys)) ≡ filter (ties lt z) ((y ∷ ys) ++ x ∷ [])
        by false e rest = rw e (ap (λ l. cond (ties lt z y) (y ∷ l) l) rest)
        by true e rest = rw e (in_front (ties lt z x) refl)
          where
            in_front : (b : Bool) → ties lt z x ≡ b → filter (ties lt z) (x ∷ y ∷ ys) ≡ filter (ties lt z) ((y ∷ ys) ++ x ∷ [])
            in_front false f =
                let alone : filter (ties lt z) (x ∷ []) ≡ [] = rw f refl in
                rw f (sym (filter-append (ties lt z) (y ∷ ys) (x ∷ []) ∙ ap (◌++◌ (filter (ties lt z) (y ∷ ys))) alone ∙ append-nil (filter (ties lt z) (y ∷ ys))))
            in_front true f =
                let alone : filter (ties lt z) (x ∷ []) ≡ x ∷ [] = rw f refl in
                let none = none-ties z (y ∷ ys) (before-tied z x y f e, Beyond-above z y ys (before-tied z x y f e) up.0) in
                rw f (ap (◌∷◌ x) none) ∙ sym (filter-append (ties lt z) (y ∷ ys) (x ∷ []) ∙ ap (λ l. l ++ filter (ties lt z) (x ∷ [])) none ∙ alone)

    -- two lists in order, in which the same values tie, are one
    pub same-in_order : (xs ys : List X) → Up xs → Up ys → SameTies xs ys → xs ≡ ys
    same-in_order [] [] up up' same = refl
    same-in_order [] (y ∷ ys) up up' same = let h : [] ≡ y ∷ filter (ties lt y) ys = rw (ties-itself y) at (same y) in cc
    same-in_order (x ∷ xs) [] up up' same = let h : x ∷ filter (ties lt x) xs ≡ [] = rw (ties-itself x) at (same x) in cc
    same-in_order (x ∷ xs) (y ∷ ys) up up' same = by (lt x y) refl (lt y x) refl (λ behind. same-in_order xs ys up.1 up'.1 behind)
      where
        by : (b : Bool) → lt x y ≡ b → (c : Bool) → lt y x ≡ c → (SameTies xs ys → xs ≡ ys) → x ∷ xs ≡ y ∷ ys
        by true e c f rest =
            let h : x ∷ filter (ties lt x) xs ≡ [] = rw (ties-itself x) at (same x) ∙ none-ties x (y ∷ ys) (e, Beyond-above x y ys e up'.0) in cc
        by false e true f rest =
            let h : y ∷ filter (ties lt y) ys ≡ [] = rw (ties-itself y) at (sym (same y)) ∙ none-ties y (x ∷ xs) (f, Beyond-above y x xs f up.0) in cc
        by false e false f rest =
            let tied : ties lt x y ≡ true = rw (e, f) refl in
            let h : x ∷ filter (ties lt x) xs ≡ y ∷ filter (ties lt x) ys = rw (ties-itself x, tied) at (same x) in
            let first : x ≡ y = cc in
            rw first (ap (◌∷◌ y) (rest (λ z. behind (ties lt z x) (ties lt z y) x y (filter (ties lt z) xs) (filter (ties lt z) ys) (ap (ties lt z) first) (same z))))
          where
            behind : (b c : Bool) (x y : X) (xs ys : List X) → b ≡ c → cond b (x ∷ xs) xs ≡ cond c (y ∷ ys) ys → xs ≡ ys
            behind true true x y xs ys e h = cc
            behind false false x y xs ys e h = h
            behind true false x y xs ys e h = cc
            behind false true x y xs ys e h = cc
