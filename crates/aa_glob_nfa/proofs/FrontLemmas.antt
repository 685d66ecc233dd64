-- Lists of the states that live: what is in them, how long they are, and what an insert does.
use Rattle.std.proofs.Common.{append_assoc, append-nil, ◌≡◌, ◌≢◌, ℕ, zero, suc, ◌+◌, ◌<◌, ◌≤◌, ◌⊎◌, Bool, true, false, cond, ◌==◌, ◌||◌, List, [], ◌∷◌, ◌++◌, length, get_or, refl, sym, ◌∙◌, ap, subst, inl, inr, arith, eq-eqb, ne_eqb}
use Rattle.std.proofs.lemmas.Bool.{both_ways, cases_Bool, eqb-true, eqb-false, or_parts, or_from}
use Rattle.std.proofs.lemmas.List.Folds.{list_any-append, Any-from_list_any, list_any-from_Any}
use Rattle.std.proofs.lemmas.List.Elements.{All-append, All-weaker, Contains-append_left, Contains-push, All-cons, All-head, All-tail, All-nil, All-push}
use Rattle.std.specs.Prelude.{All, Contains}
use Rattle.aa_bytes.specs.Bits.{has_bit}
use Rattle.aa_glob_nfa.specs.Fronts.{Live, is_in, with_state, AreDistinct}
use Rattle.aa_glob_nfa.specs.code.Marks.{AreMarked, IsFront}
use Rattle.aa_glob_nfa.specs.code.Passes.{Adds}

-- the test of being in a list, and the fact
pub Contains-from_is_in : (r : ℕ) (rs : List ℕ) → is_in r rs ≡ true → Contains rs r
Contains-from_is_in r rs h =
    let some = Any-from_list_any (λ other. r == other) rs h in
    let here : some.1 ≡ r = sym (eqb-true r some.1 some.4) in
    (some.0, some.2, subst (λ d. get_or rs some.0 d ≡ d) here some.3)

pub is_in-from_Contains : (r : ℕ) (rs : List ℕ) → Contains rs r → is_in r rs ≡ true
is_in-from_Contains r rs h = list_any-from_Any (λ other. r == other) rs (h.0, r, h.1, h.2, eq-eqb r r refl)

-- a list without a number, where that number first stands
abbrev without : ℕ → List ℕ → List ℕ
without n [] = []
without n (r ∷ rs) = cond (n == r) rs (r ∷ without n rs)

length-without : (n : ℕ) (rs : List ℕ) → length rs ≤ length (without n rs) + 1
length-without n [] = omega arith
length-without n (r ∷ rs) =
    elim (cases_Bool (n == r)) [ inl same ↦ rw same (omega arith) | inr other ↦ rw other (omega (arith, length-without n rs)) ]

not_in-without : (x n : ℕ) (rs : List ℕ) → is_in x rs ≡ false → is_in x (without n rs) ≡ false
not_in-without x n [] h = refl
not_in-without x n (r ∷ rs) h =
    let parts = or_parts (x == r) (is_in x rs) h in
    elim (cases_Bool (n == r)) [
      | inl same ↦ rw same parts.1
      | inr other ↦ rw other (or_from (x == r) (is_in x (without n rs)) parts.0 (not_in-without x n rs parts.1))
    ]

distinct-without : (n : ℕ) (rs : List ℕ) → AreDistinct rs → AreDistinct (without n rs)
distinct-without n [] h = h
distinct-without n (r ∷ rs) h =
    elim (cases_Bool (n == r)) [ inl same ↦ rw same h.1 | inr other ↦ rw other (not_in-without r n rs h.0, distinct-without n rs h.1) ]

-- each number of a list is below a bound
abbrev AreBelow : ℕ → List ℕ → Type 0
AreBelow n [] = Unit {0}
AreBelow n (r ∷ rs) = (r < n) × AreBelow n rs

AreBelow-from_All : (n : ℕ) (rs : List ℕ) → All (λ r. r < n) rs → AreBelow n rs
AreBelow-from_All n [] h = tt
AreBelow-from_All n (r ∷ rs) h = (All-head (λ r. r < n) r rs h, AreBelow-from_All n rs (All-tail (λ r. r < n) r rs h))

-- where a bound is not in a list, the list is below a smaller one
below-not_in : (n : ℕ) (rs : List ℕ) → AreBelow (suc n) rs → is_in n rs ≡ false → AreBelow n rs
below-not_in n [] h none = tt
below-not_in n (r ∷ rs) h none =
    let parts = or_parts (n == r) (is_in n rs) none in
    let apart : n ≢ r = eqb-false n r parts.0 in
    let lower : r < n = omega (arith, h.0) in
    (lower, below-not_in n rs h.1 parts.1)

below-without : (n : ℕ) (rs : List ℕ) → AreDistinct rs → AreBelow (suc n) rs → AreBelow n (without n rs)
below-without n [] distinct below = tt
below-without n (r ∷ rs) distinct below =
    elim (cases_Bool (n == r)) [
      | inl same ↦
          let e : n ≡ r = eqb-true n r same in
          rw same (below-not_in n rs below.1 (subst (λ x. is_in x rs ≡ false) (sym e) distinct.0))
      | inr other ↦
          let apart : n ≢ r = eqb-false n r other in
          let lower : r < n = omega (arith, below.0) in
          rw other (lower, below-without n rs distinct.1 below.1)
    ]

-- as many numbers as stand below a bound, where none stands twice
length_below : (n : ℕ) (rs : List ℕ) → AreDistinct rs → AreBelow n rs → length rs ≤ n
length_below zero [] distinct below = omega arith
length_below zero (r ∷ rs) distinct below = absurd (omega (arith, below.0))
length_below (suc n) rs distinct below =
    omega (arith, length-without n rs, length_below n (without n rs) (distinct-without n rs distinct) (below-without n rs distinct below))

pub length_distinct : (n : ℕ) (rs : List ℕ) → AreDistinct rs → All (λ r. r < n) rs → length rs ≤ n
length_distinct n rs distinct below = length_below n rs distinct (AreBelow-from_All n rs below)

-- one number more
is_in-push : (x r : ℕ) (rs : List ℕ) → is_in x (rs ++ r ∷ []) ≡ (is_in x rs || (x == r || false))
is_in-push x r rs = list_any-append (λ other. x == other) rs (r ∷ [])

distinct-push : (r : ℕ) (rs : List ℕ) → AreDistinct rs → is_in r rs ≡ false → AreDistinct (rs ++ r ∷ [])
distinct-push r [] h none = (refl, tt)
distinct-push r (x ∷ rs) h none =
    let parts = or_parts (r == x) (is_in r rs) none in
    let apart : x ≡ r → ⊥ = λ e. eqb-false r x parts.0 (sym e) in
    (is_in-push x r rs ∙ or_from (is_in x rs) (x == r || false) h.0 (or_from (x == r) false (ne_eqb x r apart) refl), distinct-push r rs h.1 parts.1)

turned_around : (x y : Bool) → (x || y) ≡ (y || (x || false))
turned_around x y = grind arith

-- one bit more is set
pub AreMarked-push : (r room : ℕ) (rs members marked : List ℕ) → AreMarked rs room members
    → ((x : ℕ) → has_bit marked x ≡ (x == r || has_bit members x)) → length marked ≡ length members → AreMarked (rs ++ r ∷ []) room marked
AreMarked-push r room rs members marked before bits len = record {
  marked = λ x. bits x ∙ ap (λ b. x == r || b) (before.marked x) ∙ turned_around (x == r) (is_in x rs) ∙ sym (is_in-push x r rs);
  bits = omega (arith, before.bits);
}

-- one state more in the front
pub IsFront-push : (r room : ℕ) (rs members marked : List ℕ) → IsFront rs room members → r < room → is_in r rs ≡ false
    → (marked ≡ []) ⊎ AreMarked (rs ++ r ∷ []) room marked → IsFront (rs ++ r ∷ []) room marked
IsFront-push r room rs members marked front low none is = record {
  distinct = distinct-push r rs front.distinct none;
  below = All-push (λ r. r < room) rs r front.below low;
  marked = is;
}

-- what a state's insert adds, where a test lets it in
pub Adds-tested : (r : ℕ) (test : Bool) (old new : Live) → new ≡ cond test (with_state r old) old → Adds old new (λ x. (x ≡ r) × (test ≡ true))
Adds-tested r test old new is =
    elim (cases_Bool test) [
      | inr off ↦
          let same : new ≡ old = is ∙ ap (λ b. cond b (with_state r old) old) off in
          record {
            room = ap (λ l. l.room) same;
            more = [];
            longer = ap (λ l. l.states) same ∙ sym (append-nil old.states);
            only = All-nil (λ x. (x ≡ r) × (test ≡ true));
            each = λ x kind. absurd (both_ways test off kind.1);
          }
      | inl on ↦
          let put : new ≡ with_state r old = is ∙ ap (λ b. cond b (with_state r old) old) on in
          elim (cases_Bool (is_in r old.states)) [
            | inl there ↦
                let same : new ≡ old = put ∙ ap (λ b. cond b old (record old { states = old.states ++ r ∷ [] })) there in
                record {
                  room = ap (λ l. l.room) same;
                  more = [];
                  longer = ap (λ l. l.states) same ∙ sym (append-nil old.states);
                  only = All-nil (λ x. (x ≡ r) × (test ≡ true));
                  each = λ x kind.
                      let has : Contains old.states x = Contains-from_is_in x old.states (ap (λ y. is_in y old.states) kind.0 ∙ there) in
                      subst (λ l. Contains l.states x) (sym same) has;
                }
            | inr fresh ↦
                let grown : new ≡ record old { states = old.states ++ r ∷ [] } = put ∙ ap (λ b. cond b old (record old { states = old.states ++ r ∷ [] })) fresh in
                record {
                  room = ap (λ l. l.room) grown;
                  more = r ∷ [];
                  longer = ap (λ l. l.states) grown;
                  only = All-cons (λ x. (x ≡ r) × (test ≡ true)) r [] (refl, on) (All-nil (λ x. (x ≡ r) × (test ≡ true)));
                  each = λ x kind.
                      let has : Contains (old.states ++ r ∷ []) x = subst (λ y. Contains (old.states ++ r ∷ []) y) (sym kind.0) (Contains-push old.states r) in
                      subst (λ l. Contains l.states x) (sym grown) has;
                }
          ]
    ]

-- nothing is added of a kind that nothing is of
pub Adds-nothing : (live : Live) (Kind : ℕ → Type 0) → ((r : ℕ) → Kind r → ⊥) → Adds live live Kind
Adds-nothing live Kind none = record {
  room = refl;
  more = [];
  longer = sym (append-nil live.states);
  only = All-nil Kind;
  each = λ r kind. absurd (none r kind);
}

-- the same kind by another name
pub Adds-as : (old new : Live) (Kind Other : ℕ → Type 0) → Adds old new Kind → ((r : ℕ) → Kind r → Other r) → ((r : ℕ) → Other r → Kind r) → Adds old new Other
Adds-as old new Kind Other adds to from = record {
  room = adds.room;
  more = adds.more;
  longer = adds.longer;
  only = All-weaker Kind Other to adds.more adds.only;
  each = λ r kind. adds.each r (from r kind);
}

-- two kinds, one behind the other
pub Adds-then : (old mid new : Live) (First Second Both : ℕ → Type 0) → Adds old mid First → Adds mid new Second
    → ((r : ℕ) → First r → Both r) → ((r : ℕ) → Second r → Both r) → ((r : ℕ) → Both r → First r ⊎ Second r) → Adds old new Both
Adds-then old mid new First Second Both one two first second cases = record {
  room = two.room ∙ one.room;
  more = one.more ++ two.more;
  longer = two.longer ∙ ap (λ l. l ++ two.more) one.longer ∙ append_assoc old.states one.more two.more;
  only = All-append Both one.more two.more (All-weaker First Both first one.more one.only) (All-weaker Second Both second two.more two.only);
  each = λ r kind. elim (cases r kind) [
    | inl early ↦ subst (λ l. Contains l r) (sym two.longer) (Contains-append_left mid.states two.more r (one.each r early))
    | inr late ↦ two.each r late
  ];
}
