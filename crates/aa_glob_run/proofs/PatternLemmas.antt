-- The patterns of ends, gathered and put in order.
use Rattle.std.proofs.Common.{reverse, ◌≡◌, ℕ, ◌+◌, ◌↔◌, List, [], ◌∷◌, ◌++◌, length, map, Some, sym, ◌∙◌, ap, ap₂, subst, inl, inr, arith}
use Rattle.std.proofs.lemmas.Bool.{cases_eq}
use Rattle.std.proofs.lemmas.Option.{slice_get-get_or}
use Rattle.std.proofs.lemmas.List.Elements.{All-contains, Contains-append_left, Contains-push, Contains-push_cases}
use Rattle.std.specs.Prelude.{All, Contains, slice_get, Result, Ok, Err, OnOk}
use Rattle.aa_glob_nfa.specs.Graphs.{Graph, EndsAt, IsFound, Reaches}
use Rattle.aa_glob_nfa.specs.Runs.{IsWhole}
use Rattle.aa_glob_nfa.proofs.RunLemmas.{Contains-slice_get}
use Rattle.aa_glob_run.specs.Ends.{IsEndIn}
use Rattle.aa_glob_run.specs.code.Ends.{Gets}
use Rattle.aa_glob_nfa.specs.OfTables.{graph_of}
use Rattle.aa_glob_nfa.specs.declared.state.End.{End}
use Rattle.aa_glob_nfa.specs.declared.tables.Tables.{Tables}
use Rattle.aa_glob_nfa.proofs.ListLemmas.{some_same, Contains-map, Contains-map_cases}

-- one pattern more is found
pub gets_more : (old mid new : List ℕ) (got : List ℕ) (p : ℕ) → Gets old mid (Contains got) → new ≡ mid ++ p ∷ [] → Gets old new (Contains (got ++ p ∷ []))
gets_more old mid new got p before is q = (
  (λ h. elim (Contains-push_cases mid p q (subst (λ l. Contains l q) is h)) [
    | inl early ↦ elim ((before q).0 early) [
      | inl first ↦ inl first
      | inr later ↦ inr (Contains-append_left got (p ∷ []) q later)
    ]
    | inr same ↦ inr (subst (λ x. Contains (got ++ p ∷ []) x) same (Contains-push got p))
  ]),
  (λ either. subst (λ l. Contains l q) (sym is) (elim either [
    | inl first ↦ Contains-append_left mid (p ∷ []) q ((before q).1 (inl first))
    | inr later ↦ elim (Contains-push_cases got p q later) [
      | inl early ↦ Contains-append_left mid (p ∷ []) q ((before q).1 (inr early))
      | inr same ↦ subst (λ x. Contains (mid ++ p ∷ []) x) same (Contains-push mid p)
    ]
  ])),
)

-- what is found of the ends at a state
pub gets_ends : (t : Tables) (state : ℕ) (old new : List ℕ) (ends : List End) → All (λ e. Contains t.ends.items e × (e.state ≡ state)) ends
    → ((end : End) → Contains t.ends.items end → end.state ≡ state → Contains ends end)
    → Gets old new (Contains (map (λ e. e.pattern) ends)) → Gets old new (EndsAt (graph_of t) state)
gets_ends t state old new ends only each gets p =
    let to : Contains (map (λ e. e.pattern) ends) p → EndsAt (graph_of t) state p = λ h.
    let found = Contains-map_cases (λ e. e.pattern) ends p h in
    let known = All-contains (λ e. Contains t.ends.items e × (e.state ≡ state)) ends found.0 only found.1 in
    subst (λ x. Contains (graph_of t).ends x) (ap₂ (λ x y. (x, y)) known.1 found.2) (Contains-map (λ e. (e.state, e.pattern)) t.ends.items found.0 known.0) in
    let from : EndsAt (graph_of t) state p → Contains (map (λ e. e.pattern) ends) p = λ h.
    let found = Contains-map_cases (λ e. (e.state, e.pattern)) t.ends.items (state, p) h in
    subst (λ x. Contains (map (λ e. e.pattern) ends) x) (ap (λ x. x.1) found.2)
    (Contains-map (λ e. e.pattern) ends found.0 (each found.0 found.1 (ap (λ x. x.0) found.2))) in (
      (λ h. elim ((gets p).0 h) [ inl first ↦ inl first | inr more ↦ inr (to more) ]),
      (λ either. elim either [ inl first ↦ (gets p).1 (inl first) | inr more ↦ (gets p).1 (inr (from more)) ]),
    )

-- one state's ends more
pub ends_more : (g : Graph) (at q : ℕ) (live old new : List ℕ) → ((p : ℕ) → Contains old p ↔ IsEndIn g at live p) → slice_get live at ≡ Some q
    → Gets old new (EndsAt g q) → (p : ℕ) → Contains new p ↔ IsEndIn g (at + 1) live p
ends_more g at q live old new before found gets p = (
  (λ h. elim ((gets p).0 h) [
    | inl early ↦ let known = (before p).0 early in (known.0, known.1, omega (arith, known.2), known.3, known.4)
    | inr ends ↦ (at, q, omega arith, found, ends)
  ]),
  (λ known. (gets p).1 (elim (cases_eq known.0 at) [
    | inl last ↦
        let same : known.1 ≡ q = some_same known.1 q (sym known.3 ∙ ap (slice_get live) last ∙ found) in
        inr (subst (λ x. EndsAt g x p) same known.4)
    | inr other ↦ inl ((before p).1 (known.0, known.1, omega (arith, known.2), known.3, known.4))
  ])),
)

-- a fact holds of a success too
pub OnOk-from : {T R : Type 0} → (r : Result T R) (P : Type 0) → P → OnOk r P
OnOk-from (Ok v) P p = p
OnOk-from (Err e) P p = tt

-- the patterns of the ends at all states that are reached
pub found_all : (g : Graph) (text live patterns : List ℕ) → IsWhole g (reverse text) live → ((p : ℕ) → Contains patterns p ↔ IsEndIn g (length live) live p)
    → IsFound g text patterns
found_all g text live patterns whole got p = (
  (λ h.
      let known = (got p).0 h in
      (known.1, known.4, All-contains (Reaches g (reverse text)) live known.1 whole.reached (Contains-slice_get live known.0 known.1 known.2 known.3))),
  (λ found.
      let there = whole.each found.0 found.2 in
      (got p).1 (there.0, found.0, there.1, slice_get-get_or live there.0 found.0 there.1 ∙ ap Some there.2, found.1)),
)
