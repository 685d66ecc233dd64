-- Which ways lead from a state, and which may when a byte comes, or none.
use Rattle.std.proofs.Common.{◌≡◌, ◌⊎◌, ◌↔◌, ℕ, ◌+◌, ◌<◌, true, ◌==◌, ◌||◌, List, [], ◌∷◌, length, take, get_or, Option, Some, None, sym, ◌∙◌, ap, subst, inl, inr, true≢false}
use Rattle.std.proofs.lemmas.Bool.{and_parts, eqb-true, or_cases}
use Rattle.std.proofs.lemmas.List.{take_more}
use Rattle.std.proofs.lemmas.List.Elements.{All-contains, All-nil, All-weaker, Contains-append_left, Contains-get_or, Contains-push, Contains-push_cases}
use Rattle.std.specs.Prelude.{All, Contains}
use Rattle.aa_glob_nfa.specs.Graphs.{Leads}
use Rattle.aa_glob_nfa.specs.OfTables.{AreSound, graph_of}
use Rattle.aa_glob_nfa.specs.Tables.{AreLeaving, is_byte, IsAlong, IsWay, LeadsAway, LeadsOn, may_lead, no_byte}
use Rattle.aa_glob_nfa.specs.declared.state.Way.{Way}
use Rattle.aa_glob_nfa.specs.declared.tables.Tables.{Tables}
use Rattle.aa_glob_nfa.proofs.TableLemmas.{Leads-cases, Leads-on, Leads-way}

-- a state is led to by the way that leads on or by one of the table
pub leads_both : (t : Tables) (q x : ℕ) → q < length t.states → (Leads (graph_of t) q x ↔ (LeadsOn t.states q x ⊎ LeadsAway t.ways.items q x))
leads_both t q x within = (
  λ leads. elim (Leads-cases t.states t.ways.items t.classes.items t.ends.items q x leads) [
    | inl on ↦ inl (on.1, on.2)
    | inr away ↦ inr away
  ],
  λ h. elim h [
    | inl on ↦ subst (λ n. Leads (graph_of t) q n) (sym on.1) (Leads-on t.states t.ways.items t.classes.items t.ends.items q within on.0)
    | inr away ↦ subst (λ n. Leads (graph_of t) q n) away.3 (subst (λ n. Leads (graph_of t) n away.0.to) away.2 (Leads-way t.states t.ways.items t.classes.items t.ends.items away.0 away.1))
  ],
)

-- one more of some ways
pub away_more : (ways : List Way) (i : ℕ) (d : Way) (q x : ℕ) → i < length ways
    → (LeadsAway (take (i + 1) ways) q x ↔ (LeadsAway (take i ways) q x ⊎ (((get_or ways i d).from ≡ q) × (x ≡ (get_or ways i d).to))))
away_more ways i d q x within = rw (take_more ways i d within) (
  λ h. elim (Contains-push_cases (take i ways) (get_or ways i d) h.0 h.1) [
    | inl early ↦ inl (h.0, early, h.2, h.3)
    | inr last ↦ inr (ap (λ w. w.from) last ∙ h.2, sym (ap (λ w. w.to) last ∙ h.3))
  ],
  λ h. elim h [
    | inl early ↦ (early.0, Contains-append_left (take i ways) (get_or ways i d ∷ []) early.0 early.1, early.2, early.3)
    | inr last ↦ (get_or ways i d, Contains-push (take i ways) (get_or ways i d), last.0, sym last.1)
  ],
)

-- some ways of the table lead where it leads
pub away_among : (all ways : List Way) (q x : ℕ) → All (Contains all) ways → LeadsAway ways q x → LeadsAway all q x
away_among all ways q x only h = (h.0, All-contains (Contains all) ways h.0 only h.1, h.2, h.3)

-- the ways of the table around a state are those that lead from it
pub away_around : (all ways : List Way) (q x : ℕ) → All (Contains all) ways → ((way : Way) → Contains all way → way.from ≡ q → Contains ways way)
    → (LeadsAway all q x ↔ LeadsAway ways q x)
away_around all ways q x only each = (λ h. (h.0, each h.0 h.1 h.2, h.2, h.3), away_among all ways q x only)

-- ways of the table are sound
pub known_ways : (t : Tables) (ways : List Way) → AreSound t → All (Contains t.ways.items) ways → All (IsWay t.states) ways
known_ways t ways sound only =
    All-weaker (Contains t.ways.items) (IsWay t.states) (λ way h. All-contains (IsWay t.states) t.ways.items way sound.each_way h) ways only

-- by what a way may lead from a state
may_lead-parts : (q : ℕ) (byte : Option ℕ) (way : Way) → may_lead q byte way ≡ true → (way.from ≡ q) × ((way.by ≡ no_byte) ⊎ (is_byte way.by byte ≡ true))
may_lead-parts q byte way h =
    let parts = and_parts (way.from == q) (way.by == no_byte || is_byte way.by byte) h in
    (eqb-true way.from q parts.0, elim (or_cases (way.by == no_byte) (is_byte way.by byte) parts.1) [ inl none ↦ inl (eqb-true way.by no_byte none) | inr own ↦ inr own ])

-- a few ways, as they are
pub leaving_few : (ways : List Way) (q : ℕ) (byte : Option ℕ) → AreLeaving ways q byte ways []
leaving_few ways q byte = record {
  only_any = λ k d h. Contains-get_or ways k d h;
  only_own = All-nil (Contains ways);
  each = λ way h leads. inl h;
}

among : (ways part : List Way) (q by : ℕ) → All (IsAlong ways q by) part → All (Contains ways) part
among ways part q by only = All-weaker (IsAlong ways q by) (Contains ways) (λ way along. along.among) part only

-- those without a byte of their own, and those of the byte that comes
pub leaving_some : (ways any own : List Way) (q c : ℕ) → All (IsAlong ways q no_byte) any → ((way : Way) → IsAlong ways q no_byte way → Contains any way)
    → All (IsAlong ways q c) own → ((way : Way) → IsAlong ways q c way → Contains own way) → AreLeaving ways q (Some c) any own
leaving_some ways any own q c only_any each_any only_own each_own = record {
  only_any = among ways any q no_byte only_any;
  only_own = among ways own q c only_own;
  each = λ way h leads.
      let known = may_lead-parts q (Some c) way leads in
      elim known.1 [
        | inl none ↦ inl (each_any way (record { among = h; from = known.0; by_it = none }))
        | inr is ↦ inr (each_own way (record { among = h; from = known.0; by_it = sym (eqb-true c way.by is) }))
      ];
}

-- those without a byte of their own, where none comes
pub leaving_none : (ways any : List Way) (q : ℕ) → All (IsAlong ways q no_byte) any → ((way : Way) → IsAlong ways q no_byte way → Contains any way)
    → AreLeaving ways q None any []
leaving_none ways any q only_any each_any = record {
  only_any = among ways any q no_byte only_any;
  only_own = All-nil (Contains ways);
  each = λ way h leads.
      let known = may_lead-parts q None way leads in
      elim known.1 [
        | inl none ↦ inl (each_any way (record { among = h; from = known.0; by_it = none }))
        | inr is ↦ absurd (true≢false (sym is))
      ];
}

-- the same of more ways, where these have each that leads from the state
pub leaving_of : (all ways any own : List Way) (q : ℕ) (byte : Option ℕ) → All (Contains all) ways
    → ((way : Way) → Contains all way → way.from ≡ q → Contains ways way) → AreLeaving ways q byte any own → AreLeaving all q byte any own
leaving_of all ways any own q byte only each leaving = record {
  only_any = All-weaker (Contains ways) (Contains all) (λ way h. All-contains (Contains all) ways way only h) any leaving.only_any;
  only_own = All-weaker (Contains ways) (Contains all) (λ way h. All-contains (Contains all) ways way only h) own leaving.only_own;
  each = λ way h leads. leaving.each way (each way h (may_lead-parts q byte way leads).0) leads;
}
