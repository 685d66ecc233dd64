-- Tables with one state more, and tables put in order, stay sound and stand for the graph that is meant.
use Rattle.std.proofs.Common.{◌≡◌, ◌≢◌, ℕ, suc, ◌+◌, ◌^◌, ◌<◌, ◌≤◌, true, cond, ◌==◌, List, [], ◌∷◌, ◌++◌, length, map, set, refl, sym, ◌∙◌, ap, ap₂, subst, inl, inr, arith, eq-eqb, ne_eqb, append-nil, length-append}
use Rattle.std.proofs.lemmas.Bool.{cases_eq, cases_lt, both_ways}
use Rattle.std.proofs.lemmas.List.{get_or_past, get_or_append_left, get_or-append-add}
use Rattle.std.proofs.lemmas.List.Elements.{All-head, All-tail, All-weaker, All-push, Contains-append_left, Contains-append_right, Contains-append_cases}
use Rattle.std.proofs.lemmas.List.Quantifiers.{all_pairs_push}
use Rattle.std.proofs.lemmas.List.Sorted.{Contains-permutation, IsPermutation-sym}
use Rattle.std.specs.Prelude.{All, AllPairs, Contains}
use Rattle.std.specs.List.Sorted.{IsPermutation}
use Rattle.aa_glob_nfa.specs.Graphs.{SameGraph, with_entry}
use Rattle.aa_glob_nfa.specs.Tables.{entry_behind, gate_of, by_of, set_of, sets_in, entries_in, ways_on, graph_in, bare, state_at, IsWay, IsSound}
use Rattle.aa_glob_nfa.specs.declared.entry.Entry.{Entry}
use Rattle.aa_glob_nfa.specs.declared.entry.Entry.TheVariants.{Free as FreeEntry, Byte as ByteEntry, Inside as InsideEntry, Class as ClassEntry, Star as StarEntry, DoubleStar as DoubleStarEntry}
use Rattle.aa_glob_nfa.specs.declared.state.Gate.{Gate}
use Rattle.aa_glob_nfa.specs.declared.state.Gate.TheVariants.{Free}
use Rattle.aa_glob_nfa.specs.Tables.{State}
use Rattle.aa_glob_nfa.specs.declared.state.Way.{Way}
use Rattle.aa_glob_nfa.specs.declared.state.ClassRow.{ClassRow}
use Rattle.aa_glob_nfa.specs.declared.state.End.{End}
use Rattle.aa_glob_nfa.proofs.ListLemmas.{Contains-map, Contains-map_cases}

-- a state more
state_at-grown : (states : List State) (gate : Gate) (q : ℕ) → (state_at (states ++ bare gate ∷ []) q).leads_on ≡ true → q < length states
state_at-grown states gate q on =
    elim (cases_lt q (length states)) [
      | inl within ↦ within
      | inr past ↦ elim (cases_eq q (length states)) [
        | inl same ↦
            let none : length states + 0 ≡ q = omega arith in
            let last : state_at (states ++ bare gate ∷ []) q ≡ bare gate = ap (state_at (states ++ bare gate ∷ [])) (sym none) ∙ get_or-append-add states (bare gate ∷ []) 0 (bare Free) in
            absurd (both_ways _ (ap (λ s. s.leads_on) last) on)
        | inr other ↦
            let beyond : length (states ++ bare gate ∷ []) ≤ q = omega (arith, length-append states (bare gate ∷ [])) in
            absurd (both_ways _ (ap (λ s. s.leads_on) (get_or_past (states ++ bare gate ∷ []) q (bare Free) beyond)) on)
      ]
    ]

ends_within : (states : List State) (q : ℕ) → (state_at states q).ends ≡ true → q < length states
ends_within states q h =
    elim (cases_lt q (length states)) [
      | inl within ↦ within
      | inr past ↦ absurd (both_ways _ (ap (λ s. s.ends) (get_or_past states q (bare Free) past)) h)
    ]

pub IsSound-grown : (states : List State) (ways : List Way) (classes : List ClassRow) (ends : List End) (gate : Gate) → IsSound states ways classes ends
    → length states + 1 < 2 ^ 32 → IsSound (states ++ bare gate ∷ []) ways classes ends
IsSound-grown states ways classes ends gate sound few =
    let grown = states ++ bare gate ∷ [] in
    let len : length grown ≡ length states + 1 = length-append states (bare gate ∷ []) in
    let old : (q : ℕ) → q < length states → state_at grown q ≡ state_at states q = λ q h. get_or_append_left states (bare gate ∷ []) (bare Free) q h in
    record {
      few = omega arith;
      some = omega arith;
      on = λ q h.
          let within = state_at-grown states gate q h in
          let low = sound.on q (ap (λ s. s.leads_on) (sym (old q within)) ∙ h) in
          omega arith;
      each_way = All-weaker (IsWay states) (IsWay grown) (λ way is. record {
        from = omega (arith, is.from);
        to = omega (arith, is.to);
        by = is.by ∙ ap (λ s. by_of s.gate) (sym (old way.to is.to));
        number = is.number;
        flagged = ap (λ s. s.leads_away) (old way.from is.from) ∙ is.flagged;
      }) ways sound.each_way;
      rising = sound.rising;
      each_class = All-weaker (λ c. c.state < length states) (λ c. c.state < length grown) (λ c h. omega arith) classes sound.each_class;
      each_end = All-weaker (λ e. (state_at states e.state).ends ≡ true) (λ e. (state_at grown e.state).ends ≡ true)
          (λ e h. ap (λ s. s.ends) (old e.state (ends_within states e.state h)) ∙ h) ends sound.each_end;
    }

-- the sets of the classes with those of one entry more
sets_rising : (q : ℕ) (entry : Entry) (classes : List ClassRow) → AllPairs (λ a b. a.state < b.state) classes → All (λ c. c.state < q) classes
    → AllPairs (λ a b. a.state < b.state) (classes ++ sets_in q entry) × All (λ c. c.state < q + 1) (classes ++ sets_in q entry)
sets_rising q (ClassEntry set) classes rising below =
    let row : ClassRow = record { state = q; map = set } in (
      all_pairs_push (λ a b. a.state < b.state) classes row rising (λ k d h. below k d h),
      All-push (λ c. c.state < q + 1) classes row (All-weaker (λ c. c.state < q) (λ c. c.state < q + 1) (λ c h. omega arith) classes below) (omega arith),
    )
sets_rising q FreeEntry classes rising below = rw append-nil (rising, All-weaker (λ c. c.state < q) (λ c. c.state < q + 1) (λ c h. omega arith) classes below)
sets_rising q (ByteEntry b) classes rising below = rw append-nil (rising, All-weaker (λ c. c.state < q) (λ c. c.state < q + 1) (λ c h. omega arith) classes below)
sets_rising q InsideEntry classes rising below = rw append-nil (rising, All-weaker (λ c. c.state < q) (λ c. c.state < q + 1) (λ c h. omega arith) classes below)
sets_rising q StarEntry classes rising below = rw append-nil (rising, All-weaker (λ c. c.state < q) (λ c. c.state < q + 1) (λ c h. omega arith) classes below)
sets_rising q DoubleStarEntry classes rising below = rw append-nil (rising, All-weaker (λ c. c.state < q) (λ c. c.state < q + 1) (λ c h. omega arith) classes below)

pub IsSound-added : (states : List State) (ways : List Way) (classes : List ClassRow) (ends : List End) (entry : Entry) → IsSound states ways classes ends
    → length states + 1 < 2 ^ 32 → IsSound (states ++ bare (gate_of entry) ∷ []) ways (classes ++ sets_in (length states) entry) ends
IsSound-added states ways classes ends entry sound few =
    let first = IsSound-grown states ways classes ends (gate_of entry) sound few in
    let sets = sets_rising (length states) entry classes sound.rising sound.each_class in
    let grown = states ++ bare (gate_of entry) ∷ [] in
    let len : length grown ≡ length states + 1 = length-append states (bare (gate_of entry) ∷ []) in
    record {
      few = first.few;
      some = first.some;
      on = first.on;
      each_way = first.each_way;
      rising = sets.0;
      each_class = All-weaker (λ c. c.state < length states + 1) (λ c. c.state < length grown) (λ c h. omega arith) (classes ++ sets_in (length states) entry) sets.1;
      each_end = first.each_end;
    }

set_of-push_other : (classes : List ClassRow) (row : ClassRow) (q : ℕ) → row.state ≢ q → set_of (classes ++ row ∷ []) q ≡ set_of classes q
set_of-push_other [] row q other = rw (ne_eqb row.state q other) refl
set_of-push_other (class ∷ classes) row q other = ap (λ set. cond (class.state == q) class.map set) (set_of-push_other classes row q other)

set_of-push_same : (classes : List ClassRow) (row : ClassRow) → All (λ c. c.state < row.state) classes → set_of (classes ++ row ∷ []) row.state ≡ row.map
set_of-push_same [] row below = rw (eq-eqb row.state row.state refl) refl
set_of-push_same (class ∷ classes) row below =
    let low : class.state < row.state = All-head (λ c. c.state < row.state) class classes below in
    let other : class.state ≢ row.state = omega arith in
    rw (ne_eqb class.state row.state other) (set_of-push_same classes row (All-tail (λ c. c.state < row.state) class classes below))

-- the sets of states below one are as they were when that one's is added
set_of-added : (q : ℕ) (entry : Entry) (classes : List ClassRow) (r : ℕ) → r < q → set_of (classes ++ sets_in q entry) r ≡ set_of classes r
set_of-added q (ClassEntry set) classes r low = set_of-push_other classes (record { state = q; map = set }) r (omega arith)
set_of-added q FreeEntry classes r low = rw append-nil refl
set_of-added q (ByteEntry b) classes r low = rw append-nil refl
set_of-added q InsideEntry classes r low = rw append-nil refl
set_of-added q StarEntry classes r low = rw append-nil refl
set_of-added q DoubleStarEntry classes r low = rw append-nil refl

entry_behind-added : (q : ℕ) (entry : Entry) (classes : List ClassRow) → All (λ c. c.state < q) classes
    → entry_behind (gate_of entry) (set_of (classes ++ sets_in q entry) q) ≡ entry
entry_behind-added q (ClassEntry set) classes below = ap (λ x. ClassEntry x) (set_of-push_same classes (record { state = q; map = set }) below)
entry_behind-added q FreeEntry classes below = refl
entry_behind-added q (ByteEntry b) classes below = refl
entry_behind-added q InsideEntry classes below = refl
entry_behind-added q StarEntry classes below = refl
entry_behind-added q DoubleStarEntry classes below = refl

entries_in-added : (q : ℕ) (entry : Entry) (classes : List ClassRow) (k : ℕ) (states : List State) → k + length states ≡ q → All (λ c. c.state < q) classes
    → entries_in (classes ++ sets_in q entry) k (states ++ bare (gate_of entry) ∷ []) ≡ entries_in classes k states ++ entry ∷ []
entries_in-added q entry classes k [] e below =
    let same : k ≡ q = omega arith in
    ap (λ x. entry_behind (gate_of entry) (set_of (classes ++ sets_in q entry) x) ∷ []) same ∙ ap (λ x. x ∷ []) (entry_behind-added q entry classes below)
entries_in-added q entry classes k (state ∷ states) e below =
    let low : k < q = omega arith in
    ap₂ (λ set l. entry_behind state.gate set ∷ l) (set_of-added q entry classes k low) (entries_in-added q entry classes (suc k) states (omega arith) below)

ways_on-grown : (k : ℕ) (states : List State) (gate : Gate) → ways_on k (states ++ bare gate ∷ []) ≡ ways_on k states
ways_on-grown k [] gate = refl
ways_on-grown k (state ∷ states) gate = ap (λ l. cond state.leads_on ((k, suc k) ∷ l) l) (ways_on-grown (suc k) states gate)

pub graph_in-added : (states : List State) (ways : List Way) (classes : List ClassRow) (ends : List End) (entry : Entry) → All (λ c. c.state < length states) classes
    → graph_in (states ++ bare (gate_of entry) ∷ []) ways (classes ++ sets_in (length states) entry) ends ≡ with_entry entry (graph_in states ways classes ends)
graph_in-added states ways classes ends entry below =
    let none : 0 + length states ≡ length states = omega arith in
    ap₂ (λ entries along. record { entries = entries; ways = along ++ map (λ w. (w.from, w.to)) ways; ends = map (λ e. (e.state, e.pattern)) ends })
    (entries_in-added (length states) entry classes 0 states none below) (ways_on-grown 0 states (gate_of entry))

-- what is told of the elements of a table is as it was when they were put in another order
moved : {X Y : Type 0} → (f : X → Y) (front : List Y) (xs ys : List X) (y : Y) → IsPermutation xs ys → Contains (front ++ map f xs) y → Contains (front ++ map f ys) y
moved f front xs ys y order h =
    elim (Contains-append_cases front (map f xs) y h) [
      | inl early ↦ Contains-append_left front (map f ys) y early
      | inr late ↦
          let found = Contains-map_cases f xs y late in
          Contains-append_right front (map f ys) y (subst (λ x. Contains (map f ys) x) found.2 (Contains-map f ys found.0 (Contains-permutation xs ys found.0 order found.1)))
    ]

pub SameGraph-sorted : (states : List State) (ways sorted : List Way) (classes : List ClassRow) (ends rising : List End) → IsPermutation ways sorted
    → IsPermutation ends rising → SameGraph (graph_in states ways classes ends) (graph_in states sorted classes rising)
SameGraph-sorted states ways sorted classes ends rising of_ways of_ends = record {
  entries = refl;
  ways = λ q r. (
    moved (λ w. (w.from, w.to)) (ways_on 0 states) ways sorted (q, r) of_ways,
    moved (λ w. (w.from, w.to)) (ways_on 0 states) sorted ways (q, r) (IsPermutation-sym ways sorted of_ways),
  );
  ends = λ r p. (
    moved (λ e. (e.state, e.pattern)) [] ends rising (r, p) of_ends,
    moved (λ e. (e.state, e.pattern)) [] rising ends (r, p) (IsPermutation-sym ends rising of_ends),
  );
}
