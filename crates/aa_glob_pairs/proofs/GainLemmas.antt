-- More pairs that wait.
use Rattle.std.proofs.Common.{◌≡◌, ◌⊎◌, ◌↔◌, ℕ, ◌<◌, ◌≤◌, ◌==◌, true, false, Bool, cond, List, [], ◌∷◌, ◌++◌, refl, sym, ap, subst, ◌∙◌, inl, inr, arith}
use Rattle.std.proofs.lemmas.Bool.{cases_Bool, eq-eqb, eqb-true, eqb-false}
use Rattle.std.proofs.lemmas.List.{append-nil, append_assoc}
use Rattle.std.proofs.lemmas.List.Elements.{All-contains, All-nil, Contains-append_left, Contains-push, Contains-push_cases}
use Rattle.std.specs.BTreeMap.{BTreeMap, get, is_at, Updates}
use Rattle.std.specs.Cmp.{unsigned_tied}
use Rattle.std.specs.Ordering.{nat_cmp}
use Rattle.std.specs.Prelude.{Contains, if◌then◌else◌, Option, unwrap_or}
use Rattle.aa_glob_pairs.specs.Waiting.{Gains, IsFrontOf, Ordered, row_at, SetsRow, Waits}

abbrev Rows : Type 0
Rows = List (ℕ × List ℕ)

pub front_same : (xs ys : List ℕ) → ys ≡ xs → IsFrontOf xs ys
front_same xs ys e = ([], e ∙ sym (append-nil xs))

front_then : (xs ys zs : List ℕ) → IsFrontOf xs ys → IsFrontOf ys zs → IsFrontOf xs zs
front_then xs ys zs one two = (one.0 ++ two.0, two.1 ∙ ap (λ l. l ++ two.0) one.1 ∙ append_assoc xs one.0 two.0)

-- the row of a state that gets another one, and any other row
pub row_set : (old new : Rows) (first : ℕ) (row : List ℕ) → SetsRow old new first row → row_at new first ≡ row
row_set old new first row sets = sets first ∙ ap (λ b. if b then row else row_at old first) (eq-eqb first first refl)

pub row_other : (old new : Rows) (first q : ℕ) (row : List ℕ) → SetsRow old new first row → (q ≡ first → ⊥) → row_at new q ≡ row_at old q
row_other old new first q row sets apart = sets q ∙ by (first == q) refl
  where
    by : (b : Bool) → (first == q) ≡ b → (if b then row else row_at old q) ≡ row_at old q
    by true e = absurd (apart (sym (eqb-true first q e)))
    by false e = refl

pub same_or_not : (q r : ℕ) → (q ≡ r) ⊎ (q ≡ r → ⊥)
same_or_not q r = elim (cases_Bool (q == r)) [ inl same ↦ inl (eqb-true q r same) | inr other ↦ inr (eqb-false q r other) ]

-- a map that has a list at a key, or none, has that row
pub row_updated : (old new : BTreeMap ℕ (List ℕ)) (first : ℕ) (row : Option (List ℕ)) → Updates nat_cmp old new first row → SetsRow old.entries new.entries first (unwrap_or row [])
row_updated old new first row updates q =
    ap (λ o. unwrap_or o []) (updates.0 q) ∙ by (is_at (nat_cmp first) q) (get nat_cmp old q) ∙ ap (λ b. if b then unwrap_or row [] else row_at old.entries q) (unsigned_tied first q)
  where
    by : (b : Bool) (own : Option (List ℕ)) → unwrap_or (cond b row own) [] ≡ (if b then unwrap_or row [] else unwrap_or own [])
    by true own = refl
    by false own = refl

-- one more pair
pub gains_pushed : (old new : Rows) (first second : ℕ) → SetsRow old new first (row_at old first ++ second ∷ []) → Gains old new (λ q r. (q ≡ first) × (r ≡ second))
gains_pushed old new first second sets = record {
  fronts = λ q. front q (same_or_not q first);
  each = λ q r. (there q r (same_or_not q first), back q r (same_or_not q first));
}
  where
    here : (q : ℕ) → q ≡ first → row_at new q ≡ row_at old q ++ second ∷ []
    here q same = ap (row_at new) same ∙ row_set old new first (row_at old first ++ second ∷ []) sets ∙ ap (λ n. row_at old n ++ second ∷ []) (sym same)

    elsewhere : (q : ℕ) → (q ≡ first → ⊥) → row_at new q ≡ row_at old q
    elsewhere q apart = row_other old new first q (row_at old first ++ second ∷ []) sets apart

    front : (q : ℕ) → (q ≡ first) ⊎ (q ≡ first → ⊥) → IsFrontOf (row_at old q) (row_at new q)
    front q (inl same) = (second ∷ [], here q same)
    front q (inr apart) = front_same (row_at old q) (row_at new q) (elsewhere q apart)

    there : (q r : ℕ) → (q ≡ first) ⊎ (q ≡ first → ⊥) → Waits new q r → Waits old q r ⊎ ((q ≡ first) × (r ≡ second))
    there q r (inl same) waits = elim (Contains-push_cases (row_at old q) second r (subst (λ (l : List ℕ). Contains l r) (here q same) waits)) [
      | inl early ↦ inl early
      | inr last ↦ inr (same, sym last)
    ]
    there q r (inr apart) waits = inl (subst (λ (l : List ℕ). Contains l r) (elsewhere q apart) waits)

    back : (q r : ℕ) → (q ≡ first) ⊎ (q ≡ first → ⊥) → Waits old q r ⊎ ((q ≡ first) × (r ≡ second)) → Waits new q r
    back q r (inl same) (inl waits) = subst (λ (l : List ℕ). Contains l r) (sym (here q same)) (Contains-append_left (row_at old q) (second ∷ []) r waits)
    back q r (inr apart) (inl waits) = subst (λ (l : List ℕ). Contains l r) (sym (elsewhere q apart)) waits
    back q r at (inr pair) =
        subst (λ (l : List ℕ). Contains l r) (sym (here q pair.0)) (subst (λ n. Contains (row_at old q ++ second ∷ []) n) (sym pair.1) (Contains-push (row_at old q) second))

pub nothing_there : {X : Type 0} → (x : X) → Contains [] x → ⊥
nothing_there x h = All-contains (λ _. ⊥) [] x (All-nil (λ _. ⊥)) h

-- a row that is taken away
pub passed_other : (old new : Rows) (first q r : ℕ) → SetsRow old new first [] → (q ≡ first → ⊥) → Waits old q r → Waits new q r
passed_other old new first q r sets apart waits = subst (λ (l : List ℕ). Contains l r) (sym (row_other old new first q [] sets apart)) waits

pub passed_there : (old new : Rows) (first q r : ℕ) → SetsRow old new first [] → Waits new q r → Waits old q r
passed_there old new first q r sets waits = elim (same_or_not q first) [
  | inl same ↦ absurd (nothing_there r (subst (λ (l : List ℕ). Contains l r) (ap (row_at new) same ∙ row_set old new first [] sets) waits))
  | inr apart ↦ subst (λ (l : List ℕ). Contains l r) (row_other old new first q [] sets apart) waits
]

-- nothing is got of a kind that nothing is of
pub gains_nothing : (p : Rows) (Kind : ℕ → ℕ → Type 0) → ((q r : ℕ) → Kind q r → ⊥) → Gains p p Kind
gains_nothing p Kind none = record {
  fronts = λ q. front_same (row_at p q) (row_at p q) refl;
  each = λ q r. (inl, λ h. elim h [ inl has ↦ has | inr kind ↦ absurd (none q r kind) ]);
}

-- the same kind by another name
pub gains_as : (old new : Rows) (Kind Other : ℕ → ℕ → Type 0) → Gains old new Kind → ((q r : ℕ) → (Kind q r ↔ Other q r)) → Gains old new Other
gains_as old new Kind Other gains same = record {
  fronts = gains.fronts;
  each = λ q r. (
    λ has. elim ((gains.each q r).0 has) [ inl before ↦ inl before | inr kind ↦ inr ((same q r).0 kind) ],
    λ h. elim h [ inl before ↦ (gains.each q r).1 (inl before) | inr other ↦ (gains.each q r).1 (inr ((same q r).1 other)) ],
  );
}

-- two kinds, one behind the other
pub gains_then : (old mid new : Rows) (First Second Both : ℕ → ℕ → Type 0) → Gains old mid First → Gains mid new Second
    → ((q r : ℕ) → (Both q r ↔ (First q r ⊎ Second q r))) → Gains old new Both
gains_then old mid new First Second Both one two both = record {
  fronts = λ q. front_then (row_at old q) (row_at mid q) (row_at new q) (one.fronts q) (two.fronts q);
  each = λ q r. (there q r, back q r);
}
  where
    there : (q r : ℕ) → Waits new q r → Waits old q r ⊎ Both q r
    there q r has = elim ((two.each q r).0 has) [
      | inl mid ↦ elim ((one.each q r).0 mid) [
        | inl before ↦ inl before
        | inr first ↦ inr ((both q r).1 (inl first))
      ]
      | inr second ↦ inr ((both q r).1 (inr second))
    ]

    back : (q r : ℕ) → Waits old q r ⊎ Both q r → Waits new q r
    back q r (inl before) = (two.each q r).1 (inl ((one.each q r).1 (inl before)))
    back q r (inr kind) = elim ((both q r).0 kind) [
      | inl first ↦ (two.each q r).1 (inl ((one.each q r).1 (inr first)))
      | inr second ↦ (two.each q r).1 (inr second)
    ]

-- the same pairs by another name, with the lesser state first
pub ordered_as : (Kind Other : ℕ → ℕ → Type 0) → ((q r : ℕ) → (Kind q r ↔ Other q r)) → (q r : ℕ) → (Ordered Kind q r ↔ Ordered Other q r)
ordered_as Kind Other same q r = (
  λ h. (h.0, elim h.1 [ inl kind ↦ inl ((same q r).0 kind) | inr turned ↦ inr ((same r q).0 turned) ]),
  λ h. (h.0, elim h.1 [ inl other ↦ inl ((same q r).1 other) | inr turned ↦ inr ((same r q).1 turned) ]),
)

pub pairs_as : (old new : Rows) (Kind Other : ℕ → ℕ → Type 0) → Gains old new (Ordered Kind) → ((q r : ℕ) → (Kind q r ↔ Other q r)) → Gains old new (Ordered Other)
pairs_as old new Kind Other gains same = gains_as old new (Ordered Kind) (Ordered Other) gains (ordered_as Kind Other same)

pub pairs_then : (old mid new : Rows) (First Second Both : ℕ → ℕ → Type 0) → Gains old mid (Ordered First) → Gains mid new (Ordered Second)
    → ((q r : ℕ) → (Both q r ↔ (First q r ⊎ Second q r))) → Gains old new (Ordered Both)
pairs_then old mid new First Second Both one two both = gains_then old mid new (Ordered First) (Ordered Second) (Ordered Both) one two (λ q r. (there q r, back q r))
  where
    there : (q r : ℕ) → Ordered Both q r → Ordered First q r ⊎ Ordered Second q r
    there q r h = elim h.1 [
      | inl kind ↦ elim ((both q r).0 kind) [ inl first ↦ inl (h.0, inl first) | inr second ↦ inr (h.0, inl second) ]
      | inr turned ↦ elim ((both r q).0 turned) [ inl first ↦ inl (h.0, inr first) | inr second ↦ inr (h.0, inr second) ]
    ]

    back : (q r : ℕ) → Ordered First q r ⊎ Ordered Second q r → Ordered Both q r
    back q r (inl first) = (first.0, elim first.1 [ inl kind ↦ inl ((both q r).1 (inl kind)) | inr turned ↦ inr ((both r q).1 (inl turned)) ])
    back q r (inr second) = (second.0, elim second.1 [ inl kind ↦ inl ((both q r).1 (inr kind)) | inr turned ↦ inr ((both r q).1 (inr turned)) ])

pub pairs_nothing : (p : Rows) (Kind : ℕ → ℕ → Type 0) → ((q r : ℕ) → Kind q r → ⊥) → Gains p p (Ordered Kind)
pairs_nothing p Kind none = gains_nothing p (Ordered Kind) (λ q r h. elim h.1 [ inl kind ↦ none q r kind | inr turned ↦ none r q turned ])

-- one pair, in either order
pub pair_gained : (old new : Rows) (one other : ℕ) → one ≤ other → Gains old new (λ q r. (q ≡ one) × (r ≡ other)) → Gains old new (Ordered (λ q r. (q ≡ one) × (r ≡ other)))
pair_gained old new one other rising gains = gains_as old new (λ q r. (q ≡ one) × (r ≡ other)) (Ordered (λ q r. (q ≡ one) × (r ≡ other))) gains (λ q r. (
  λ pair. (omega (arith, pair.0, pair.1, rising), inl pair),
  λ h. elim h.1 [ inl pair ↦ pair | inr turned ↦ (omega (arith, turned.0, turned.1, rising, h.0), omega (arith, turned.0, turned.1, rising, h.0)) ],
))

pub pair_turned : (old new : Rows) (one other : ℕ) → other < one → Gains old new (λ q r. (q ≡ other) × (r ≡ one)) → Gains old new (Ordered (λ q r. (q ≡ one) × (r ≡ other)))
pair_turned old new one other falling gains = gains_as old new (λ q r. (q ≡ other) × (r ≡ one)) (Ordered (λ q r. (q ≡ one) × (r ≡ other))) gains (λ q r. (
  λ pair. (omega (arith, pair.0, pair.1, falling), inr (pair.1, pair.0)),
  λ h. elim h.1 [ inl pair ↦ absurd (omega (arith, pair.0, pair.1, falling, h.0)) | inr turned ↦ (turned.1, turned.0) ],
))
