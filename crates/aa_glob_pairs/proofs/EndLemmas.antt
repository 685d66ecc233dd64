-- The patterns that end at a state, with their classes.
use Rattle.std.proofs.Common.{◌≡◌, ℕ, ◌+◌, ◌<◌, List, [], ◌∷◌, ◌++◌, length, take, get_or, sym, ap, ap₂, subst, ◌∙◌, inl, inr}
use Rattle.std.proofs.lemmas.List.{take_more}
use Rattle.std.proofs.lemmas.List.Elements.{All-contains, All-get_or, Contains-append_left, Contains-push, Contains-push_cases}
use Rattle.std.specs.Prelude.{All, Contains}
use Rattle.aa_glob_nfa.proofs.ListLemmas.{Contains-map, Contains-map_cases}
use Rattle.aa_glob_nfa.specs.Graphs.{EndsAt}
use Rattle.aa_glob_nfa.specs.OfTables.{graph_of}
use Rattle.aa_glob_nfa.specs.declared.state.End.{End}
use Rattle.aa_glob_nfa.specs.declared.tables.Tables.{Tables}
use Rattle.aa_glob_pairs.proofs.GainLemmas.{nothing_there}
use Rattle.aa_glob_pairs.specs.Graphs.{AreEndingsOf, class_at}
use Rattle.aa_glob_pairs.specs.code.Gathered.{AreGathered}
use Rattle.aa_glob_pairs.specs.declared.ends.Ending.{Ending}

-- an end of the table is one of the graph
pub end_is : (t : Tables) (state : ℕ) (end : End) → Contains t.ends.items end → end.state ≡ state → EndsAt (graph_of t) state end.pattern
end_is t state end has at = subst (λ s. EndsAt (graph_of t) s end.pattern) at (Contains-map (λ e. (e.state, e.pattern)) t.ends.items end has)

-- one of some ends of a state is an end of the graph
pub end_among : (t : Tables) (state i : ℕ) (ends : List End) (d : End) → All (λ e. Contains t.ends.items e × (e.state ≡ state)) ends → i < length ends
    → EndsAt (graph_of t) state (get_or ends i d).pattern
end_among t state i ends d only within =
    let at = All-get_or (λ e. Contains t.ends.items e × (e.state ≡ state)) ends i d within only in
    end_is t state (get_or ends i d) at.0 at.1

-- no ends, none gathered
pub gathered_none : (classes : List ℕ) (endings : List Ending) → endings ≡ [] → AreGathered classes [] endings
gathered_none classes endings none e = (
  λ h. absurd (nothing_there e (subst (λ (l : List Ending). Contains l e) none h)),
  λ h. absurd (nothing_there h.0 h.1),
)

-- one more end
pub gathered_more : (classes : List ℕ) (ends : List End) (i : ℕ) (d : End) (old new : List Ending) (one : Ending) → i < length ends → AreGathered classes (take i ends) old
    → one.pattern ≡ (get_or ends i d).pattern → one.class ≡ class_at classes (get_or ends i d).pattern → new ≡ old ++ one ∷ [] → AreGathered classes (take (i + 1) ends) new
gathered_more classes ends i d old new one within gathered pattern class is e = rw is (rw (take_more ends i d within) (
  λ h. elim (Contains-push_cases old one e h) [
    | inl early ↦ let at = (gathered e).0 early in (at.0, Contains-append_left (take i ends) (get_or ends i d ∷ []) at.0 at.1, at.2, at.3)
    | inr last ↦ (
      get_or ends i d,
      Contains-push (take i ends) (get_or ends i d),
      ap (λ x. x.pattern) (sym last) ∙ pattern,
      ap (λ x. x.class) (sym last) ∙ class,
    )
  ],
  λ h. elim (Contains-push_cases (take i ends) (get_or ends i d) h.0 h.1) [
    | inl early ↦ Contains-append_left old (one ∷ []) e ((gathered e).1 (h.0, early, h.2, h.3))
    | inr last ↦ subst (λ x. Contains (old ++ one ∷ []) x) (same one e (pattern ∙ ap (λ x. x.pattern) last ∙ sym h.2)
        (class ∙ ap (λ x. class_at classes x.pattern) last ∙ sym h.3)) (Contains-push old one)
  ],
))
  where
    same : (a b : Ending) → a.pattern ≡ b.pattern → a.class ≡ b.class → a ≡ b
    same a b pattern class = ap₂ (λ p k. record { pattern = p; class = k }) pattern class

-- the ends of a state
pub gathered_all : (t : Tables) (classes : List ℕ) (state : ℕ) (ends : List End) (endings : List Ending) → All (λ e. Contains t.ends.items e × (e.state ≡ state)) ends
    → ((end : End) → Contains t.ends.items end → end.state ≡ state → Contains ends end) → AreGathered classes ends endings → AreEndingsOf (graph_of t) classes state endings
gathered_all t classes state ends endings only each gathered e = (
  λ h.
      let at = (gathered e).0 h in
      let known = All-contains (λ e. Contains t.ends.items e × (e.state ≡ state)) ends at.0 only at.1 in (
        subst (λ p. EndsAt (graph_of t) state p) (sym at.2) (end_is t state at.0 known.0 known.1),
        at.3 ∙ ap (class_at classes) (sym at.2),
      ),
  λ h.
      let found = Contains-map_cases (λ e. (e.state, e.pattern)) t.ends.items (state, e.pattern) h.0 in
      let pattern : e.pattern ≡ (found.0).pattern = sym (ap (λ x. x.1) found.2) in
      (gathered e).1 (found.0, each found.0 found.1 (ap (λ x. x.0) found.2), pattern, h.1 ∙ ap (class_at classes) pattern),
)
