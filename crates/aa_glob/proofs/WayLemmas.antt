-- Ways that are drawn one after the other.
use Rattle.std.proofs.Common.{◌≡◌, ℕ, ◌+◌, ◌<◌, List, [], ◌∷◌, ◌++◌, length, reverse, take, get_or, sym, ◌∙◌, inl, inr, ◌⊎◌, subst}
use Rattle.std.specs.Prelude.{Contains}
use Rattle.std.proofs.lemmas.List.{reverse-append, take_more}
use Rattle.std.proofs.lemmas.List.Elements.{All-contains, All-nil, Contains-append_cases, Contains-append_left, Contains-append_right, Contains-push, Contains-push_cases}
use Rattle.aa_glob.specs.Ways.{AddsWays}
use Rattle.aa_glob_nfa.specs.Graphs.{Graph, Leads, AddsWay}

none_there : (q : ℕ) → Contains [] q → ⊥
none_there q h = All-contains (λ _. ⊥) [] q (All-nil (λ _. ⊥)) h

-- what a list has it has in reverse too
pub reversed_has : (xs : List ℕ) (q : ℕ) → Contains xs q → Contains (reverse xs) q
reversed_has [] q h = h
reversed_has (x ∷ xs) q h = subst (λ (l : List ℕ). Contains l q) (sym (reverse-append (x ∷ []) xs)) (elim (Contains-append_cases (x ∷ []) xs q h) [
  | inl first ↦ Contains-append_right (reverse xs) (x ∷ []) q first
  | inr later ↦ Contains-append_left (reverse xs) (x ∷ []) q (reversed_has xs q later)
])

has_reversed : (xs : List ℕ) (q : ℕ) → Contains (reverse xs) q → Contains xs q
has_reversed [] q h = h
has_reversed (x ∷ xs) q h = elim (Contains-append_cases (reverse xs) (x ∷ []) q (subst (λ (l : List ℕ). Contains l q) (reverse-append (x ∷ []) xs) h)) [
  | inl later ↦ Contains-append_right (x ∷ []) xs q (has_reversed xs q later)
  | inr first ↦ Contains-append_left (x ∷ []) xs q first
]

-- some, and then others
pub ways-append : (old mid new : Graph) (first second : List ℕ) (to : ℕ) → AddsWays old mid first to → AddsWays mid new second to → AddsWays old new (first ++ second) to
ways-append old mid new first second to one two = record {
  entries = two.entries ∙ one.entries;
  ways = λ q r. (there q r, back q r);
  ends = two.ends ∙ one.ends;
}
  where
    there : (q r : ℕ) → Leads new q r → Leads old q r ⊎ (Contains (first ++ second) q × (r ≡ to))
    there q r h = elim ((two.ways q r).0 h) [
      | inl before ↦ elim ((one.ways q r).0 before) [
        | inl older ↦ inl older
        | inr way ↦ inr (Contains-append_left first second q way.0, way.1)
      ]
      | inr way ↦ inr (Contains-append_right first second q way.0, way.1)
    ]

    back : (q r : ℕ) → Leads old q r ⊎ (Contains (first ++ second) q × (r ≡ to)) → Leads new q r
    back q r (inl older) = (two.ways q r).1 (inl ((one.ways q r).1 (inl older)))
    back q r (inr way) = elim (Contains-append_cases first second q way.0) [
      | inl earlier ↦ (two.ways q r).1 (inl ((one.ways q r).1 (inr (earlier, way.1))))
      | inr later ↦ (two.ways q r).1 (inr (later, way.1))
    ]

-- ways from the same states in another order
pub ways-reverse : (old new : Graph) (from : List ℕ) (to : ℕ) → AddsWays old new from to → AddsWays old new (reverse from) to
ways-reverse old new from to adds = record {
  entries = adds.entries;
  ways = λ q r. (
    λ h. elim ((adds.ways q r).0 h) [ inl older ↦ inl older | inr way ↦ inr (reversed_has from q way.0, way.1) ],
    λ h. elim h [ inl older ↦ (adds.ways q r).1 (inl older) | inr way ↦ (adds.ways q r).1 (inr (has_reversed from q way.0, way.1)) ],
  );
  ends = adds.ends;
}

-- one more of some
pub ways-more : (old mid new : Graph) (from : List ℕ) (at d to : ℕ) → at < length from → AddsWays old mid (take at from) to → AddsWays mid new (get_or from at d ∷ []) to → AddsWays old new (take (at + 1) from) to
ways-more old mid new from at d to within before one =
    subst (λ (states : List ℕ). AddsWays old new states to) (sym (take_more from at d within)) (ways-append old mid new (take at from) (get_or from at d ∷ []) to before one)

-- a way alone
pub ways-one : (old new : Graph) (from to : ℕ) → AddsWay old new from to → AddsWays old new (from ∷ []) to
ways-one old new from to adds = record {
  entries = adds.entries;
  ways = λ q r. (
    λ h. elim ((adds.ways q r).0 h) [
      | inl older ↦ inl older
      | inr way ↦ inr (subst (λ (p : ℕ). Contains (from ∷ []) p) (sym way.0) (Contains-push [] from), way.1)
    ],
    λ h. elim h [
      | inl older ↦ (adds.ways q r).1 (inl older)
      | inr way ↦ (adds.ways q r).1 (inr (sym (elim (Contains-push_cases [] from q way.0) [ inl none ↦ absurd (none_there q none) | inr same ↦ same ]), way.1))
    ],
  );
  ends = adds.ends;
}
