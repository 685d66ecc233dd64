-- The visits at the places of a text have one count.
use Rattle.std.proofs.Common.{◌≡◌, ◌≢◌, ℕ, zero, suc, ◌<◌, ◌≤◌, List, [], ◌∷◌, ◌++◌, length, refl, sym, ◌∙◌, ap, subst, inl, inr, arith, length-append}
use Rattle.std.proofs.lemmas.List.Elements.{Contains-append_cases, Contains-append_left, Contains-append_right}
use Rattle.std.specs.Prelude.{AllPairs, Contains, slice_index_or}
use Rattle.aa_glob_nfa.specs.Visits.{AreVisits}

-- no element is one after it
abbrev AreApart : {X : Type 0} → List X → Type 0
AreApart xs = AllPairs (λ x y. x ≢ y) xs

-- the first of elements that are apart, and the others
apart-rest : {X : Type 0} (x : X) (xs : List X) → AreApart (x ∷ xs) → AreApart xs
apart-rest x xs apart = λ i j d before within. apart (suc i) (suc j) d (omega (arith, before)) (omega (arith, within))

first_alone : {X : Type 0} (x : X) (xs : List X) → AreApart (x ∷ xs) → Contains xs x → ⊥
first_alone x xs apart h =
    let within = h.1 in
    apart 0 (suc h.0) x (omega arith) (omega (arith, within)) (sym h.2)

-- one of a list's elements, between those before it and those after it
split_at : {X : Type 0} (xs : List X) (x : X) (k : ℕ) → k < length xs → slice_index_or xs k x ≡ x → (before after : List X) × (xs ≡ before ++ x ∷ after)
split_at [] x k within is = absurd (omega arith)
split_at (y ∷ ys) x zero within is = ([], ys, ap (λ z. z ∷ ys) is)
split_at (y ∷ ys) x (suc k) within is = let rest = split_at ys x k (omega arith) is in (y ∷ rest.0, rest.1, ap (λ l. y ∷ l) rest.2)

-- what is in a list is also among all but one of its elements, if it isn't that one
but_one : {X : Type 0} (before after : List X) (one x : X) → (one ≡ x → ⊥) → Contains (before ++ one ∷ after) x → Contains (before ++ after) x
but_one {X} before after one x differs h = elim (Contains-append_cases before (one ∷ after) x h) [
  | inl early ↦ Contains-append_left before after x early
  | inr late ↦ behind late.0 late.1 late.2
]
  where
    behind : (k : ℕ) → k < length (one ∷ after) → slice_index_or (one ∷ after) k x ≡ x → Contains (before ++ after) x
    behind zero within is = absurd (differs is)
    behind (suc k) within is = Contains-append_right before after x (k, omega arith, is)

-- one element more in front
later : {X : Type 0} (x first : X) (xs : List X) → Contains xs x → Contains (first ∷ xs) x
later x first xs h = (suc h.0, (let within = h.1 in omega arith), h.2)

-- elements that are apart and all among others are no more than those
length-among : {X : Type 0} (xs others : List X) → AreApart xs → ((x : X) → Contains xs x → Contains others x) → length xs ≤ length others
length-among [] others apart among = omega arith
length-among {X} (x ∷ xs) others apart among =
    let here = among x (0, omega arith, refl) in
    let parts = split_at others x here.0 here.1 here.2 in
    let differs : (y : X) → Contains xs y → x ≡ y → ⊥ = λ y h same. first_alone x xs apart (subst (λ (z : X). Contains xs z) (sym same) h) in
    let left : (y : X) → Contains xs y → Contains (parts.0 ++ parts.1) y = λ y h. but_one parts.0 parts.1 x y (differs y h) (subst (λ (l : List X). Contains l y) parts.2 (among y (later y x xs h))) in
    let fewer = length-among xs (parts.0 ++ parts.1) (apart-rest x xs apart) left in
    let all = ap length parts.2 in
    let with_it = length-append parts.0 (x ∷ parts.1) in
    let without_it = length-append parts.0 parts.1 in
    omega arith

-- whatever lives behind texts, the visits at the first places of a text have one count
pub one_count : {X : Type 0} (Lives : List ℕ → X → Type 0) (text : List ℕ) (places m n : ℕ) → AreVisits Lives text places m → AreVisits Lives text places n → m ≡ n
one_count Lives text zero m n first second = first ∙ sym second
one_count Lives text (suc place) m n first second =
    let before = one_count Lives text place first.0 second.0 first.1 second.1 in
    let there = length-among first.2 second.2 first.3.apart (λ x h. (second.3.members x).1 ((first.3.members x).0 h)) in
    let back = length-among second.2 first.2 second.3.apart (λ x h. (first.3.members x).1 ((second.3.members x).0 h)) in
    let counted = first.4 in
    let also = second.4 in
    omega arith
