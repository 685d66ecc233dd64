-- Tables with one way or end more stay sound, and stand for the graph with that way or end.
use Rattle.std.proofs.Common.{◌≡◌, ℕ, zero, suc, ◌+◌, ◌<◌, ◌≤◌, ◌⊎◌, true, cond, List, [], ◌∷◌, ◌++◌, length, map, set, refl, sym, ◌∙◌, ap, ap₂, subst, inl, inr, arith, length-set, get_or-set_same, get_or-set_other}
use Rattle.std.proofs.lemmas.Bool.{cases_eq}
use Rattle.std.proofs.lemmas.List.{map-append}
use Rattle.std.proofs.lemmas.List.Elements.{All-weaker, All-push, Contains-append_left, Contains-push, Contains-push_cases}
use Rattle.std.specs.Prelude.{Contains, Result, Ok, Err, OnErr}
use Rattle.aa_glob_nfa.specs.Graphs.{Leads, IsState, AddsWay, AddsEnd}
use Rattle.aa_glob_nfa.specs.OfTables.{graph_of}
use Rattle.aa_glob_nfa.specs.Tables.{entry_behind, by_of, no_byte, set_of, entries_in, ways_on, graph_in, bare, state_at, leading_away, IsWay, IsSound}
use Rattle.aa_glob_nfa.specs.declared.state.Gate.TheVariants.{Free}
use Rattle.aa_glob_nfa.specs.Tables.{State}
use Rattle.aa_glob_nfa.specs.declared.state.Way.{Way}
use Rattle.aa_glob_nfa.specs.declared.state.ClassRow.{ClassRow}
use Rattle.aa_glob_nfa.specs.declared.state.End.{End}
use Rattle.aa_glob_nfa.specs.declared.tables.Tables.{Tables}
use Rattle.aa_glob_nfa.proofs.TableLemmas.{length-entries_in, Leads-cases, Leads-on, Leads-way}

-- a state of the graph is one of the table
pub is_in_table : (t : Tables) (r : ℕ) → IsState (graph_of t) r → r < length t.states
is_in_table t r h = omega (arith, length-entries_in t.classes.items 0 t.states, h)

-- a state with the same gate and at least the same flags
pub record FlagsMore (old new : State) : Type 0 where
  pub gate : new.gate ≡ old.gate
  pub flags : old.leads_away ≡ true → new.leads_away ≡ true
  pub ends : old.ends ≡ true → new.ends ≡ true

more_same : (old new : State) → new ≡ old → FlagsMore old new
more_same old new e = record {
  gate = ap (λ s. s.gate) e;
  flags = λ h. ap (λ s. s.leads_away) e ∙ h;
  ends = λ h. ap (λ s. s.ends) e ∙ h;
}

more_at : (states : List State) (q r : ℕ) (s : State) → q < length states → FlagsMore (state_at states q) s → FlagsMore (state_at states r) (state_at (set states q s) r)
more_at states q r s within more =
    elim (cases_eq r q) [
      | inl same ↦
          let here : state_at (set states q s) q ≡ s = get_or-set_same states q s (bare Free) within in
          let put : FlagsMore (state_at states q) (state_at (set states q s) q) = subst (FlagsMore (state_at states q)) (sym here) more in
          subst (λ x. FlagsMore (state_at states x) (state_at (set states q s) x)) (sym same) put
      | inr other ↦ more_same _ _ (get_or-set_other states q r s (bare Free) other)
    ]

-- the tables stay sound where a state is flagged
pub IsSound-set : (states : List State) (ways : List Way) (classes : List ClassRow) (ends : List End) (q : ℕ) (s : State) → IsSound states ways classes ends
    → q < length states → FlagsMore (state_at states q) s → (s.leads_on ≡ true → q + 1 < length states) → IsSound (set states q s) ways classes ends
IsSound-set states ways classes ends q s sound within more on =
    let len : length (set states q s) ≡ length states = length-set states q s in
    record {
      few = omega (arith, sound.few);
      some = omega (arith, sound.some);
      on = λ r h. elim (cases_eq r q) [
        | inl same ↦
            let here : (state_at (set states q s) r).leads_on ≡ s.leads_on = ap (λ x. (state_at (set states q s) x).leads_on) same ∙ ap (λ x. x.leads_on) (get_or-set_same states q s (bare Free) within) in
            let low = on (sym here ∙ h) in
            omega arith
        | inr other ↦ let low = sound.on r (ap (λ x. x.leads_on) (sym (get_or-set_other states q r s (bare Free) other)) ∙ h) in omega arith
      ];
      each_way = All-weaker (IsWay states) (IsWay (set states q s)) (λ way is. record {
        from = omega (arith, is.from);
        to = omega (arith, is.to);
        by = is.by ∙ ap by_of (sym (more_at states q way.to s within more).gate);
        number = is.number;
        flagged = (more_at states q way.from s within more).flags is.flagged;
      }) ways sound.each_way;
      rising = sound.rising;
      each_class = All-weaker (λ c. c.state < length states) (λ c. c.state < length (set states q s)) (λ c h. omega arith) classes sound.each_class;
      each_end = All-weaker (λ e. (state_at states e.state).ends ≡ true) (λ e. (state_at (set states q s) e.state).ends ≡ true)
          (λ e h. (more_at states q e.state s within more).ends h) ends sound.each_end;
    }

-- entries and ways that lead on are as they were where neither changes
pub entries_in-set : (classes : List ClassRow) (k q : ℕ) (states : List State) (s : State) → s.gate ≡ (state_at states q).gate
    → entries_in classes k (set states q s) ≡ entries_in classes k states
entries_in-set classes k q [] s e = refl
entries_in-set classes k zero (x ∷ states) s e = ap (λ gate. entry_behind gate (set_of classes k) ∷ entries_in classes (suc k) states) e
entries_in-set classes k (suc q) (x ∷ states) s e = ap (λ l. entry_behind x.gate (set_of classes k) ∷ l) (entries_in-set classes (suc k) q states s e)

pub ways_on-set : (k q : ℕ) (states : List State) (s : State) → s.leads_on ≡ (state_at states q).leads_on → ways_on k (set states q s) ≡ ways_on k states
ways_on-set k q [] s e = refl
ways_on-set k zero (x ∷ states) s e = ap (λ on. cond on ((k, suc k) ∷ ways_on (suc k) states) (ways_on (suc k) states)) e
ways_on-set k (suc q) (x ∷ states) s e =
    ap (λ l. cond x.leads_on ((k, suc k) ∷ l) l) (ways_on-set (suc k) q states s e)

pub graph_in-set : (states : List State) (ways : List Way) (classes : List ClassRow) (ends : List End) (q : ℕ) (s : State) → s.gate ≡ (state_at states q).gate
    → s.leads_on ≡ (state_at states q).leads_on → graph_in (set states q s) ways classes ends ≡ graph_in states ways classes ends
graph_in-set states ways classes ends q s gate on =
    ap₂ (λ entries along. record { entries = entries; ways = along ++ map (λ w. (w.from, w.to)) ways; ends = map (λ e. (e.state, e.pattern)) ends })
    (entries_in-set classes 0 q states s gate) (ways_on-set 0 q states s on)

-- one way more, by what the tables say of ways
AddsWay-by : (states grown : List State) (ways more : List Way) (classes : List ClassRow) (ends : List End) (from to : ℕ)
    → entries_in classes 0 grown ≡ entries_in classes 0 states
    → ((q : ℕ) → q < length grown → (state_at grown q).leads_on ≡ true → ((q < length states) × ((state_at states q).leads_on ≡ true)) ⊎ ((q ≡ from) × (to ≡ from + 1)))
    → ((q : ℕ) → q < length states → (state_at states q).leads_on ≡ true → (q < length grown) × ((state_at grown q).leads_on ≡ true))
    → ((way : Way) → Contains more way → Contains ways way ⊎ ((way.from ≡ from) × (way.to ≡ to)))
    → ((way : Way) → Contains ways way → Contains more way)
    → Leads (graph_in grown more classes ends) from to
    → AddsWay (graph_in states ways classes ends) (graph_in grown more classes ends) from to
AddsWay-by states grown ways more classes ends from to entries on_cases on_kept way_cases way_kept new = record {
  entries = entries;
  ends = refl;
  ways = λ q r. (
    (λ leads. elim (Leads-cases grown more classes ends q r leads) [
      | inl on ↦ elim (on_cases q on.0 on.1) [
        | inl old ↦ inl (subst (λ x. Leads (graph_in states ways classes ends) q x) (sym on.2) (Leads-on states ways classes ends q old.0 old.1))
        | inr here ↦ inr (here.0, on.2 ∙ ap (λ x. x + 1) here.0 ∙ sym here.1)
      ]
      | inr found ↦ elim (way_cases found.0 found.1) [
        | inl old ↦ inl (subst (λ x. Leads (graph_in states ways classes ends) x r) found.2
            (subst (λ x. Leads (graph_in states ways classes ends) found.0.from x) found.3 (Leads-way states ways classes ends found.0 old)))
        | inr here ↦ inr (sym found.2 ∙ here.0, sym found.3 ∙ here.1)
      ]
    ]),
    (λ either. elim either [
      | inl leads ↦ elim (Leads-cases states ways classes ends q r leads) [
        | inl on ↦
            let kept = on_kept q on.0 on.1 in
            subst (λ x. Leads (graph_in grown more classes ends) q x) (sym on.2) (Leads-on grown more classes ends q kept.0 kept.1)
        | inr found ↦ subst (λ x. Leads (graph_in grown more classes ends) x r) found.2
            (subst (λ x. Leads (graph_in grown more classes ends) found.0.from x) found.3 (Leads-way grown more classes ends found.0 (way_kept found.0 found.1)))
      ]
      | inr here ↦ subst (λ x. Leads (graph_in grown more classes ends) x r) (sym here.0)
          (subst (λ x. Leads (graph_in grown more classes ends) from x) (sym here.1) new)
    ]),
  );
}

-- a way to the next state, which is a flag
pub AddsWay-on : (states : List State) (ways : List Way) (classes : List ClassRow) (ends : List End) (from to : ℕ) → from < length states → to ≡ from + 1
    → AddsWay (graph_in states ways classes ends) (graph_in (set states from (record (state_at states from) { leads_on = true })) ways classes ends) from to
AddsWay-on states ways classes ends from to within next =
    let s : State = record (state_at states from) { leads_on = true } in
    let grown = set states from s in
    let len : length grown ≡ length states = length-set states from s in
    let here : state_at grown from ≡ s = get_or-set_same states from s (bare Free) within in
    AddsWay-by states grown ways ways classes ends from to (entries_in-set classes 0 from states s refl)
    (λ q h on. elim (cases_eq q from) [
      | inl same ↦ inr (same, next)
      | inr other ↦ inl (omega arith, ap (λ x. x.leads_on) (sym (get_or-set_other states from q s (bare Free) other)) ∙ on)
    ])
    (λ q h on. elim (cases_eq q from) [
      | inl same ↦ (omega arith, ap (λ x. (state_at grown x).leads_on) same ∙ ap (λ x. x.leads_on) here)
      | inr other ↦ (omega arith, ap (λ x. x.leads_on) (get_or-set_other states from q s (bare Free) other) ∙ on)
    ])
    (λ way h. inl h) (λ way h. h)
    (subst (λ x. Leads (graph_in grown ways classes ends) from x) (sym next) (Leads-on grown ways classes ends from (omega arith) (ap (λ x. x.leads_on) here)))

-- the flag that there are ways in the table
pub more_away : (s : State) → FlagsMore s (leading_away s)
more_away s = record { gate = refl; flags = λ h. refl; ends = λ h. h }

-- a way in the table
pub AddsWay-push : (states : List State) (ways : List Way) (classes : List ClassRow) (ends : List End) (way : Way) → way.from < length states
    → AddsWay (graph_in states ways classes ends)
    (graph_in (set states way.from (leading_away (state_at states way.from))) (ways ++ way ∷ []) classes ends) way.from way.to
AddsWay-push states ways classes ends way within =
    let s = leading_away (state_at states way.from) in
    let grown = set states way.from s in
    let len : length grown ≡ length states = length-set states way.from s in
    let same_on : (q : ℕ) → (state_at grown q).leads_on ≡ (state_at states q).leads_on = λ q. elim (cases_eq q way.from) [
      | inl same ↦
          ap (λ x. (state_at grown x).leads_on) same
          ∙ ap (λ x. x.leads_on) (get_or-set_same states way.from s (bare Free) within)
          ∙ ap (λ x. (state_at states x).leads_on) (sym same)
      | inr other ↦ ap (λ x. x.leads_on) (get_or-set_other states way.from q s (bare Free) other)
    ] in
    AddsWay-by states grown ways (ways ++ way ∷ []) classes ends way.from way.to
    (entries_in-set classes 0 way.from states s (more_away (state_at states way.from)).gate)
    (λ q h on. inl (omega arith, sym (same_on q) ∙ on))
    (λ q h on. (omega arith, same_on q ∙ on))
    (λ other h. elim (Contains-push_cases ways way other h) [
      | inl old ↦ inl old
      | inr same ↦ inr (ap (λ w. w.from) (sym same), ap (λ w. w.to) (sym same))
    ])
    (λ other h. Contains-append_left ways (way ∷ []) other h)
    (Leads-way grown (ways ++ way ∷ []) classes ends way (Contains-push ways way))

pub IsSound-way : (states : List State) (ways : List Way) (classes : List ClassRow) (ends : List End) (way : Way) → IsSound states ways classes ends
    → way.from < length states → way.to < length states → way.by ≡ by_of (state_at states way.to).gate → way.by ≤ no_byte
    → IsSound (set states way.from (leading_away (state_at states way.from))) (ways ++ way ∷ []) classes ends
IsSound-way states ways classes ends way sound from to by number =
    let old = state_at states way.from in
    let s = leading_away old in
    let grown = set states way.from s in
    let len : length grown ≡ length states = length-set states way.from s in
    let first : IsSound grown ways classes ends = IsSound-set states ways classes ends way.from s sound from (more_away old)
    (λ h. sound.on way.from h) in
    let here : state_at grown way.from ≡ s = get_or-set_same states way.from s (bare Free) from in
    record {
      few = first.few;
      some = first.some;
      on = first.on;
      each_way = All-push (IsWay grown) ways way first.each_way (record {
        from = omega arith;
        to = omega arith;
        by = by ∙ ap by_of (sym (more_at states way.from way.to s from (more_away old)).gate);
        number = number;
        flagged = ap (λ x. x.leads_away) here;
      });
      rising = first.rising;
      each_class = first.each_class;
      each_end = first.each_end;
    }

-- an end in the table
more_ending : (s : State) → FlagsMore s (record s { ends = true })
more_ending s = record { gate = refl; flags = λ h. h; ends = λ h. refl }

pub IsSound-ending : (states : List State) (ways : List Way) (classes : List ClassRow) (ends : List End) (q : ℕ) → IsSound states ways classes ends
    → q < length states → IsSound (set states q (record (state_at states q) { ends = true })) ways classes ends
IsSound-ending states ways classes ends q sound within =
    IsSound-set states ways classes ends q _ sound within (more_ending (state_at states q)) (λ h. sound.on q h)

pub IsSound-end : (states : List State) (ways : List Way) (classes : List ClassRow) (ends : List End) (end : End) → IsSound states ways classes ends
    → end.state < length states → IsSound (set states end.state (record (state_at states end.state) { ends = true })) ways classes (ends ++ end ∷ [])
IsSound-end states ways classes ends end sound within =
    let s : State = record (state_at states end.state) { ends = true } in
    let first = IsSound-ending states ways classes ends end.state sound within in
    record {
      few = first.few;
      some = first.some;
      on = first.on;
      each_way = first.each_way;
      rising = first.rising;
      each_class = first.each_class;
      each_end = All-push (λ e. (state_at (set states end.state s) e.state).ends ≡ true) ends end first.each_end
          (ap (λ x. x.ends) (get_or-set_same states end.state s (bare Free) within));
    }

pub AddsEnd-push : (states : List State) (ways : List Way) (classes : List ClassRow) (ends : List End) (end : End)
    → AddsEnd (graph_in states ways classes ends)
    (graph_in (set states end.state (record (state_at states end.state) { ends = true })) ways classes (ends ++ end ∷ [])) end.state end.pattern
AddsEnd-push states ways classes ends end =
    let s : State = record (state_at states end.state) { ends = true } in
    let split : map (λ e. (e.state, e.pattern)) (ends ++ end ∷ []) ≡ map (λ e. (e.state, e.pattern)) ends ++ (end.state, end.pattern) ∷ [] =
    map-append (λ e. (e.state, e.pattern)) ends (end ∷ []) in
    record {
      entries = entries_in-set classes 0 end.state states s refl;
      ways = ap (λ l. l ++ map (λ w. (w.from, w.to)) ways) (ways_on-set 0 end.state states s refl);
      ends = λ r p. (
        (λ h. elim (Contains-push_cases (map (λ e. (e.state, e.pattern)) ends) (end.state, end.pattern) (r, p) (subst (λ l. Contains l (r, p)) split h)) [
          | inl old ↦ inl old
          | inr same ↦ inr (ap (λ x. x.0) (sym same), ap (λ x. x.1) (sym same))
        ]),
        (λ either. subst (λ l. Contains l (r, p)) (sym split) (elim either [
          | inl old ↦ Contains-append_left (map (λ e. (e.state, e.pattern)) ends) ((end.state, end.pattern) ∷ []) (r, p) old
          | inr same ↦
              let is : (end.state, end.pattern) ≡ (r, p) = ap₂ (λ x y. (x, y)) (sym same.0) (sym same.1) in
              subst (λ x. Contains (map (λ e. (e.state, e.pattern)) ends ++ (end.state, end.pattern) ∷ []) x) is
              (Contains-push (map (λ e. (e.state, e.pattern)) ends) (end.state, end.pattern))
        ])),
      );
    }

-- what holds holds of a refusal
pub OnErr-from : {T R : Type 0} → (r : Result T R) (P : Type 0) → P → OnErr r P
OnErr-from (Ok v) P p = tt
OnErr-from (Err e) P p = p
