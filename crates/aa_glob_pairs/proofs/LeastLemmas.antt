-- The least number of some kinds.
use Rattle.std.proofs.Common.{◌≡◌, ◌⊎◌, ◌↔◌, ℕ, ◌+◌, ◌<◌, List, [], ◌∷◌, ◌++◌, length, take, get_or, sym, ap, ◌∙◌, inl, inr, Option, None, Some}
use Rattle.std.proofs.lemmas.List.{take_more}
use Rattle.std.proofs.lemmas.List.Elements.{Contains-append_cases, Contains-append_left, Contains-append_right, Contains-push, Contains-push_cases}
use Rattle.std.specs.Prelude.{Contains}
use Rattle.aa_glob_pairs.proofs.GainLemmas.{nothing_there}
use Rattle.aa_glob_pairs.specs.Clashes.{Clash, IsLeast, Lowers}
use Rattle.aa_glob_pairs.specs.declared.ends.Ending.{Ending}

-- nothing of a kind that nothing is of
pub lowers_nothing : (found : Option ℕ) (Kind : ℕ → Type 0) → ((k : ℕ) → Kind k → ⊥) → Lowers found found Kind
lowers_nothing found Kind none = record {
  there = λ k e. inl e;
  kept = λ k at_most. at_most;
  least = λ k kind. absurd (none k kind);
}

-- the same kind by another name
pub lowers_as : (old new : Option ℕ) (Kind Other : ℕ → Type 0) → Lowers old new Kind → ((k : ℕ) → (Kind k ↔ Other k)) → Lowers old new Other
lowers_as old new Kind Other lowers same = record {
  there = λ k e. elim (lowers.there k e) [ inl before ↦ inl before | inr kind ↦ inr ((same k).0 kind) ];
  kept = lowers.kept;
  least = λ k other. lowers.least k ((same k).1 other);
}

-- two kinds, one behind the other
pub lowers_then : (old mid new : Option ℕ) (First Second Both : ℕ → Type 0) → Lowers old mid First → Lowers mid new Second
    → ((k : ℕ) → (Both k ↔ (First k ⊎ Second k))) → Lowers old new Both
lowers_then old mid new First Second Both one two both = record {
  there = λ k e. elim (two.there k e) [
    | inl before ↦ elim (one.there k before) [ inl older ↦ inl older | inr first ↦ inr ((both k).1 (inl first)) ]
    | inr second ↦ inr ((both k).1 (inr second))
  ];
  kept = λ k at_most. two.kept k (one.kept k at_most);
  least = λ k kind. elim ((both k).0 kind) [ inl first ↦ two.kept k (one.least k first) | inr second ↦ two.least k second ];
}

-- patterns among some or others
clash_append : (some more others : List Ending) (k : ℕ) → (Clash (some ++ more) others k ↔ (Clash some others k ⊎ Clash more others k))
clash_append some more others k = (
  λ h. elim (Contains-append_cases some more h.0 h.2) [
    | inl early ↦ inl (h.0, h.1, early, h.3, h.4, h.5, h.6)
    | inr late ↦ inr (h.0, h.1, late, h.3, h.4, h.5, h.6)
  ],
  λ h. elim h [
    | inl early ↦ (early.0, early.1, Contains-append_left some more early.0 early.2, early.3, early.4, early.5, early.6)
    | inr late ↦ (late.0, late.1, Contains-append_right some more late.0 late.2, late.3, late.4, late.5, late.6)
  ],
)

clash_append_other : (some others more : List Ending) (k : ℕ) → (Clash some (others ++ more) k ↔ (Clash some others k ⊎ Clash some more k))
clash_append_other some others more k = (
  λ h. elim (Contains-append_cases others more h.1 h.3) [
    | inl early ↦ inl (h.0, h.1, h.2, early, h.4, h.5, h.6)
    | inr late ↦ inr (h.0, h.1, h.2, late, h.4, h.5, h.6)
  ],
  λ h. elim h [
    | inl early ↦ (early.0, early.1, early.2, Contains-append_left others more early.1 early.3, early.4, early.5, early.6)
    | inr late ↦ (late.0, late.1, late.2, Contains-append_right others more late.1 late.3, late.4, late.5, late.6)
  ],
)

-- one more pattern of the first
pub lower_more : (old mid new : Option ℕ) (some : List Ending) (i : ℕ) (d : Ending) (others : List Ending) → i < length some → Lowers old mid (Clash (take i some) others)
    → Lowers mid new (Clash (get_or some i d ∷ []) others) → Lowers old new (Clash (take (i + 1) some) others)
lower_more old mid new some i d others within one two =
    rw (take_more some i d within)
    (lowers_then old mid new (Clash (take i some) others) (Clash (get_or some i d ∷ []) others) (Clash (take i some ++ get_or some i d ∷ []) others) one two
    (clash_append (take i some) (get_or some i d ∷ []) others))

-- one more of the second
pub lower_beside_more : (old mid new : Option ℕ) (some others : List Ending) (i : ℕ) (d : Ending) → i < length others → Lowers old mid (Clash some (take i others))
    → Lowers mid new (Clash some (get_or others i d ∷ [])) → Lowers old new (Clash some (take (i + 1) others))
lower_beside_more old mid new some others i d within one two =
    rw (take_more others i d within)
    (lowers_then old mid new (Clash some (take i others)) (Clash some (get_or others i d ∷ [])) (Clash some (take i others ++ get_or others i d ∷ [])) one two
    (clash_append_other some (take i others) (get_or others i d ∷ [])))

-- the one pattern
alone : (s t : Ending) → Contains (s ∷ []) t → s ≡ t
alone s t h = elim (Contains-push_cases [] s t h) [ inl none ↦ absurd (nothing_there t none) | inr same ↦ same ]

-- two patterns that clash
pub lower_clash : (old new : Option ℕ) (e f : Ending) → (e.class ≡ f.class → ⊥) → e.pattern < f.pattern → Lowers old new (λ k. k ≡ f.pattern)
    → Lowers old new (Clash (e ∷ []) (f ∷ []))
lower_clash old new e f classes earlier lowers =
    lowers_as old new (λ k. k ≡ f.pattern) (Clash (e ∷ []) (f ∷ [])) lowers (λ k. (
      λ is. (e, f, Contains-push [] e, Contains-push [] f, classes, earlier, sym is),
      λ h. sym h.6 ∙ ap (λ x. x.pattern) (sym (alone f h.1 h.3)),
    ))

-- the least of a kind by another name
pub least_as : (found : Option ℕ) (Kind Other : ℕ → Type 0) → ((k : ℕ) → (Kind k ↔ Other k)) → IsLeast found Kind → IsLeast found Other
least_as None Kind Other same least = λ k other. least k ((same k).1 other)
least_as (Some j) Kind Other same least = ((same j).0 least.0, λ k other. least.1 k ((same k).1 other))
