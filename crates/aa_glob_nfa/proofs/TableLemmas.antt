-- What the tables of a graph say of its entries, its ways and its ends.
use Rattle.std.proofs.Common.{◌≡◌, ◌≢◌, ℕ, zero, suc, ◌+◌, ◌-◌, ◌*◌, ◌/◌, ◌%◌, ◌<◌, ◌≤◌, ◌⊎◌, true, false, cond, ◌==◌, List, [], ◌∷◌, length, map, take, drop, get_or, refl, sym, ◌∙◌, ap, ap₂, subst, inl, inr, arith, eq-eqb, ne_eqb}
use Rattle.std.proofs.lemmas.Bool.{cases_eq, cases_lt, cases_Bool}
use Rattle.std.proofs.lemmas.List.Elements.{Contains-append_left, Contains-append_right, Contains-append_cases, Contains-get_or, All-head, All-tail}
use Rattle.std.proofs.lemmas.List.{get_or-take, get_or-drop, get_or_default, length-take, length-drop}
use Rattle.std.specs.Prelude.{All, AllPairs, Contains}
use Rattle.std.proofs.lemmas.Nat.Bits.{bit_at-zero}
use Rattle.std.specs.Int.{bit_at}
use Rattle.std.specs.List.{AllWithin}
use Rattle.aa_bytes.specs.ByteMaps.{in_map}
use Rattle.aa_glob_nfa.specs.Graphs.{entry_of, Leads}
use Rattle.aa_glob_nfa.specs.Tables.{entry_behind, no_byte, order_of, no_bytes, set_of, entries_in, ways_on, graph_in, state_at, IsAlong}
use Rattle.aa_glob_nfa.specs.declared.entry.Entry.TheVariants.{Free as FreeEntry}
use Rattle.aa_glob_nfa.specs.Tables.{State}
use Rattle.aa_glob_nfa.specs.declared.state.Way.{Way}
use Rattle.aa_glob_nfa.specs.declared.state.ClassRow.{ClassRow}
use Rattle.aa_glob_nfa.specs.declared.state.End.{End}
use Rattle.aa_glob_nfa.proofs.ListLemmas.{Contains-cons_cases, Contains-first, Contains-later, Contains-map, Contains-map_cases}

-- there is an entry for each state, and it is what the state's gate stands for
pub length-entries_in : (classes : List ClassRow) (k : ℕ) (states : List State) → length (entries_in classes k states) ≡ length states
length-entries_in classes k [] = refl
length-entries_in classes k (state ∷ states) = ap suc (length-entries_in classes (suc k) states)

pub entry_in-entries_in : (classes : List ClassRow) (k q i : ℕ) (states : List State) → q ≡ k + i → i < length states
    → get_or (entries_in classes k states) i FreeEntry ≡ entry_behind (state_at states i).gate (set_of classes q)
entry_in-entries_in classes k q i [] e within = absurd (omega arith)
entry_in-entries_in classes k q zero (state ∷ states) e within = let same : k ≡ q = omega arith in ap (λ x. entry_behind state.gate (set_of classes x)) same
entry_in-entries_in classes k q (suc i) (state ∷ states) e within = entry_in-entries_in classes (suc k) q i states (omega arith) (omega arith)

pub entry_of-graph_in : (states : List State) (ways : List Way) (classes : List ClassRow) (ends : List End) (q : ℕ) → q < length states
    → entry_of (graph_in states ways classes ends) q ≡ entry_behind (state_at states q).gate (set_of classes q)
entry_of-graph_in states ways classes ends q within = entry_in-entries_in classes 0 q q states (omega arith) within

-- the ways that lead on are those of the flagged states
pub ways_on-cases : (k : ℕ) (states : List State) (q r : ℕ) → Contains (ways_on k states) (q, r)
    → (i : ℕ) × (q ≡ k + i) × (i < length states) × ((state_at states i).leads_on ≡ true) × (r ≡ q + 1)
ways_on-cases k [] q r h = absurd (omega (arith, h.1))
ways_on-cases k (state ∷ states) q r h =
    let behind : Contains (ways_on (suc k) states) (q, r) → (i : ℕ) × (q ≡ k + i) × (i < suc (length states)) × ((state_at (state ∷ states) i).leads_on ≡ true) × (r ≡ q + 1) = λ more.
    let found = ways_on-cases (suc k) states q r more in
    let at : q ≡ k + suc found.0 = omega (arith, found.1) in
    let within : suc found.0 < suc (length states) = omega (arith, found.2) in
    (suc found.0, at, within, found.3, found.4) in
    elim (cases_Bool state.leads_on) [
      | inl on ↦
          let shown : Contains ((k, suc k) ∷ ways_on (suc k) states) (q, r) = subst (λ b. Contains (cond b ((k, suc k) ∷ ways_on (suc k) states) (ways_on (suc k) states)) (q, r)) on h in
          elim (Contains-cons_cases (k, suc k) (ways_on (suc k) states) (q, r) shown) [
            | inl e ↦
                let first : k ≡ q = ap (λ p. p.0) e in
                let second : suc k ≡ r = ap (λ p. p.1) e in
                (0, omega arith, omega arith, on, omega arith)
            | inr more ↦ behind more
          ]
      | inr off ↦ behind (subst (λ b. Contains (cond b ((k, suc k) ∷ ways_on (suc k) states) (ways_on (suc k) states)) (q, r)) off h)
    ]

pub Contains-ways_on : (k i : ℕ) (states : List State) → i < length states → (state_at states i).leads_on ≡ true → Contains (ways_on k states) (k + i, suc (k + i))
Contains-ways_on k i [] within on = absurd (omega arith)
Contains-ways_on k zero (state ∷ states) within on =
    let here : k + 0 ≡ k = omega arith in
    rw (on, here) (Contains-first (k, suc k) (ways_on (suc k) states))
Contains-ways_on k (suc i) (state ∷ states) within on =
    let found = Contains-ways_on (suc k) i states (omega arith) on in
    let here : suc k + i ≡ k + suc i = omega arith in
    let there : Contains (ways_on (suc k) states) (k + suc i, suc (k + suc i)) = subst (λ n. Contains (ways_on (suc k) states) (n, suc n)) here found in
    elim (cases_Bool state.leads_on) [
      | inl first ↦ rw first (Contains-later (k, suc k) (ways_on (suc k) states) (k + suc i, suc (k + suc i)) there)
      | inr none ↦ rw none there
    ]

-- a way of the graph is one that leads on, or one of the table
pub Leads-cases : (states : List State) (ways : List Way) (classes : List ClassRow) (ends : List End) (q r : ℕ) → Leads (graph_in states ways classes ends) q r
    → ((q < length states) × ((state_at states q).leads_on ≡ true) × (r ≡ q + 1)) ⊎ ((way : Way) × Contains ways way × (way.from ≡ q) × (way.to ≡ r))
Leads-cases states ways classes ends q r h =
    elim (Contains-append_cases (ways_on 0 states) (map (λ w. (w.from, w.to)) ways) (q, r) h) [
      | inl on ↦
          let found = ways_on-cases 0 states q r on in
          let same : found.0 ≡ q = omega (arith, found.1) in
          inl (omega (arith, found.1, found.2), subst (λ i. (state_at states i).leads_on ≡ true) same found.3, found.4)
      | inr other ↦
          let found = Contains-map_cases (λ w. (w.from, w.to)) ways (q, r) other in
          inr (found.0, found.1, ap (λ p. p.0) found.2, ap (λ p. p.1) found.2)
    ]

pub Leads-on : (states : List State) (ways : List Way) (classes : List ClassRow) (ends : List End) (q : ℕ) → q < length states
    → (state_at states q).leads_on ≡ true → Leads (graph_in states ways classes ends) q (q + 1)
Leads-on states ways classes ends q within on =
    let here : 0 + q ≡ q = omega arith in
    let next : suc q ≡ q + 1 = omega arith in
    let found : Contains (ways_on 0 states) (q, q + 1) = rw (← next) (subst (λ n. Contains (ways_on 0 states) (n, suc n)) here (Contains-ways_on 0 q states within on)) in
    Contains-append_left (ways_on 0 states) (map (λ w. (w.from, w.to)) ways) (q, q + 1) found

pub Leads-way : (states : List State) (ways : List Way) (classes : List ClassRow) (ends : List End) (way : Way) → Contains ways way
    → Leads (graph_in states ways classes ends) way.from way.to
Leads-way states ways classes ends way h =
    Contains-append_right (ways_on 0 states) (map (λ w. (w.from, w.to)) ways) (way.from, way.to) (Contains-map (λ w. (w.from, w.to)) ways way h)

-- a class's set is found by its state, which no two rows of the table share
pub set_of-found : (classes : List ClassRow) (i q : ℕ) (d : ClassRow) → i < length classes → (get_or classes i d).state ≡ q
    → ((j : ℕ) → j < i → (get_or classes j d).state ≢ q) → set_of classes q ≡ (get_or classes i d).map
set_of-found [] i q d within is before = absurd (omega arith)
set_of-found (class ∷ classes) zero q d within is before = rw (eq-eqb class.state q is) refl
set_of-found (class ∷ classes) (suc i) q d within is before =
    let other : class.state ≢ q = before 0 (omega arith) in
    rw (ne_eqb class.state q other) (set_of-found classes i q d (omega arith) is (λ j h. before (suc j) (omega arith)))

pub set_of-none : (classes : List ClassRow) (q : ℕ) → All (λ c. c.state ≢ q) classes → set_of classes q ≡ no_bytes
set_of-none [] q none = refl
set_of-none (class ∷ classes) q none =
    rw (ne_eqb class.state q (All-head (λ c. c.state ≢ q) class classes none)) (set_of-none classes q (All-tail (λ c. c.state ≢ q) class classes none))

-- the part of the table between two places, of which the first is where ways from an order on begin, and the second the same for the next
-- order
pub bounds_in_order : (ways : List Way) (order start end : ℕ) → start ≤ length ways
    → AllWithin (λ w. order_of w < order) ways 0 start → AllWithin (λ w. order + 1 ≤ order_of w) ways end (length ways) → start ≤ end
bounds_in_order ways order start end within before behind =
    elim (cases_lt end start) [
      | inl past ↦
          let d : Way = record { from = 0; by = 0; to = 0 } in
          let low = before end d (omega arith) past in
          let high = behind end d (omega arith) (omega arith) in
          absurd (omega arith)
      | inr fine ↦ fine
    ]

pub only_along : (ways : List Way) (q by start end : ℕ) → by ≤ no_byte → All (λ w. w.by ≤ no_byte) ways → start ≤ end → end ≤ length ways
    → AllWithin (λ w. order_of w < q * 512 + by + 1) ways 0 end → AllWithin (λ w. q * 512 + by ≤ order_of w) ways start (length ways)
    → All (IsAlong ways q by) (take (end - start) (drop start ways))
only_along ways q by start end small numbers up within before behind k d h =
    let inside : k < end - start = omega (arith, length-take (end - start) (drop start ways)) in
    let at : start + k < length ways = omega arith in
    let way = get_or ways (start + k) d in
    let is : get_or (take (end - start) (drop start ways)) k d ≡ way = get_or-take (end - start) (drop start ways) k d inside ∙ get_or-drop start ways k d in
    let high : order_of way < q * 512 + by + 1 = before (start + k) d (omega arith) (omega arith) in
    let low : q * 512 + by ≤ order_of way = behind (start + k) d (omega arith) at in
    let number : way.by ≤ no_byte = numbers (start + k) d at in
    let found : IsAlong ways q by way = record { among = Contains-get_or ways (start + k) d at; from = omega arith; by_it = omega arith } in
    rw is found

pub each_along : (ways : List Way) (q by start end : ℕ) → end ≤ length ways
    → AllWithin (λ w. order_of w < q * 512 + by) ways 0 start → AllWithin (λ w. q * 512 + by + 1 ≤ order_of w) ways end (length ways)
    → (way : Way) → IsAlong ways q by way → Contains (take (end - start) (drop start ways)) way
each_along ways q by start end within before behind way along =
    let k = along.among.0 in
    let here : get_or ways k way ≡ way = along.among.2 in
    let order : order_of way ≡ q * 512 + by = ap₂ (λ x y. x * 512 + y) along.from along.by_it in
    let from_start : start ≤ k = elim (cases_lt k start) [
      | inl early ↦ let low : order_of way < q * 512 + by = subst (λ w. order_of w < q * 512 + by) here (before k way (omega arith) early) in absurd (omega arith)
      | inr fine ↦ fine
    ] in
    let to_end : k < end = elim (cases_lt k end) [
      | inl fine ↦ fine
      | inr late ↦ let high : q * 512 + by + 1 ≤ order_of way = subst (λ w. q * 512 + by + 1 ≤ order_of w) here (behind k way late along.among.1) in absurd (omega arith)
    ] in
    let inside : k - start < length (take (end - start) (drop start ways)) = omega (arith, length-take (end - start) (drop start ways), length-drop start ways) in
    let back : start + (k - start) ≡ k = omega arith in
    let is : get_or (take (end - start) (drop start ways)) (k - start) way ≡ way =
    get_or-take (end - start) (drop start ways) (k - start) way (omega arith) ∙ get_or-drop start ways (k - start) way ∙ ap (λ i. get_or ways i way) back ∙ here in
    (k - start, inside, is)

-- the set of a class is that of the first row from its state on, if that is of the state
pub set_at-first : (classes : List ClassRow) (q i : ℕ) (d : ClassRow) → i < length classes → AllWithin (λ c. c.state < q) classes 0 i
    → (get_or classes i d).state ≡ q → set_of classes q ≡ (get_or classes i d).map
set_at-first classes q i d within before is = set_of-found classes i q d within is (λ j h e. let low = before j d (omega arith) h in omega arith)

pub set_of-missing : (classes : List ClassRow) (q i : ℕ) → AllWithin (λ c. c.state < q) classes 0 i → AllWithin (λ c. q < c.state) classes i (length classes)
    → set_of classes q ≡ no_bytes
set_of-missing classes q i before behind =
    set_of-none classes q (λ k d h e. elim (cases_lt k i) [
      | inl early ↦ let low = before k d (omega arith) early in omega arith
      | inr late ↦ let high = behind k d late h in omega arith
    ])

-- the set of no bytes has none
abbrev four_zeros : List ℕ
four_zeros = 0 ∷ 0 ∷ 0 ∷ 0 ∷ []

words-none : (k : ℕ) → get_or four_zeros k 0 ≡ 0
words-none zero = refl
words-none (suc zero) = refl
words-none (suc (suc zero)) = refl
words-none (suc (suc (suc zero))) = refl
words-none (suc (suc (suc (suc k)))) = refl

in_map-no_bytes : (byte : ℕ) → in_map no_bytes byte ≡ false
in_map-no_bytes byte = ap (λ w. bit_at w (byte % 64) == 1) (words-none (byte / 64)) ∙ ap (λ b. b == 1) (bit_at-zero (byte % 64))

-- a class's set has the byte that the set of the first row has, from the class's state on
pub class_has-found : (classes : List ClassRow) (q i byte : ℕ) (d : ClassRow) → i < length classes → AllWithin (λ c. c.state < q) classes 0 i
    → (d ≡ get_or classes i d) → d.state ≡ q → in_map d.map byte ≡ in_map (set_of classes q) byte
class_has-found classes q i byte d within before here is =
    ap (λ set. in_map set byte)
    (ap (λ r. r.map) here ∙ sym (set_at-first classes q i d within before (ap (λ r. r.state) (sym here) ∙ is)))

pub class_has-other : (classes : List ClassRow) (q i byte : ℕ) (d : ClassRow) → AllPairs (λ a b. a.state < b.state) classes
    → AllWithin (λ c. c.state < q) classes 0 i → AllWithin (λ c. q ≤ c.state) classes i (length classes)
    → i < length classes → (d ≡ get_or classes i d) → d.state ≢ q → false ≡ in_map (set_of classes q) byte
class_has-other classes q i byte d rising before behind within here other =
    let low : q ≤ d.state = subst (λ c. q ≤ c.state) (sym here) (behind i d (omega arith) within) in
    let above : q < d.state = elim (cases_eq d.state q) [ inl same ↦ absurd (other same) | inr differs ↦ omega arith ] in
    sym (ap (λ set. in_map set byte) (set_of-missing classes q i before
    (λ k e up h. elim (cases_eq k i) [
      | inl same ↦
          let at : get_or classes k e ≡ d = ap (λ x. get_or classes x e) same ∙ get_or_default classes i e d within ∙ sym here in
          subst (λ c. q < c.state) (sym at) above
      | inr differs ↦
          let first : get_or classes i e ≡ d = get_or_default classes i e d within ∙ sym here in
          let rise : (get_or classes i e).state < (get_or classes k e).state = rising i k e (omega arith) h in
          let more : d.state < (get_or classes k e).state = subst (λ c. c.state < (get_or classes k e).state) first rise in
          omega arith
    ])) ∙ in_map-no_bytes byte)

pub class_has-none : (classes : List ClassRow) (q i byte : ℕ) → AllWithin (λ c. c.state < q) classes 0 i → length classes ≤ i
    → false ≡ in_map (set_of classes q) byte
class_has-none classes q i byte before past =
    sym (ap (λ set. in_map set byte) (set_of-missing classes q i before (λ k e up h. absurd (omega arith))) ∙ in_map-no_bytes byte)
