-- The classes below states: those of a state by its ends and the states behind it, the last state first.
use Rattle.std.proofs.Common.{◌≡◌, ℕ, zero, suc, ◌+◌, ◌-◌, ◌<◌, ◌≤◌, Bool, true, false, List, ◌∷◌, length, take, get_or, set, refl, sym, ap, subst, ◌∙◌, inl, inr, arith}
use Rattle.std.proofs.lemmas.Bool.{cases_lt, eqb-true}
use Rattle.std.proofs.lemmas.Bool.Decides.{nat_tests}
use Rattle.std.proofs.lemmas.List.{get_or-set_other, get_or-set_same, take_more}
use Rattle.std.proofs.lemmas.List.Elements.{Contains-push_cases}
use Rattle.std.specs.Prelude.{All, Contains, slice_index_or, not, ◌==◌, if◌then◌else◌, map, nat_lt, replicate}
use Rattle.aa_glob_nfa.proofs.ListLemmas.{Contains-map_cases}
use Rattle.aa_glob_nfa.specs.Graphs.{EndsAt, Graph}
use Rattle.aa_glob_nfa.specs.OfTables.{graph_of}
use Rattle.aa_glob_nfa.specs.declared.state.End.{End}
use Rattle.aa_glob_nfa.specs.declared.state.Way.{Way}
use Rattle.aa_glob_nfa.specs.declared.tables.Tables.{Tables}
use Rattle.aa_glob_nfa.proofs.LeavingLemmas.{away_around, away_more, leads_both}
use Rattle.aa_glob_pairs.specs.Below.{can_clash, Covers, Includes}
use Rattle.aa_glob_pairs.specs.Graphs.{class_at, IsBelowAt, IsLaid}
use Rattle.aa_glob_nfa.specs.Tables.{LeadsAway, LeadsOn}
use Rattle.aa_glob_pairs.specs.code.Numbered.{as_kept, below_of, numbered_classes}
use Rattle.aa_glob_pairs.specs.declared.below.Below.{Below}
use Rattle.aa_glob_pairs.specs.declared.below.Below.TheVariants.{Nothing, One, Several}

-- one more of the patterns that end at a state
pub covers_more : (classes : List ℕ) (ends : List End) (i : ℕ) (d : End) (old new : Below) → i < length ends
    → ((e : End) → Contains (take i ends) e → Covers old (class_at classes e.pattern)) → Includes new old → Covers new (class_at classes (get_or ends i d).pattern)
    → (e : End) → Contains (take (i + 1) ends) e → Covers new (class_at classes e.pattern)
covers_more classes ends i d old new within before includes one e h =
    elim (Contains-push_cases (take i ends) (get_or ends i d) e (subst (λ (l : List End). Contains l e) (take_more ends i d within) h)) [
      | inl early ↦ includes (class_at classes e.pattern) (before e early)
      | inr last ↦ subst (λ (f : End). Covers new (class_at classes f.pattern)) last one
    ]

-- one more of the ways of a state
pub includes_more : (belows : List Below) (q : ℕ) (ways : List Way) (i : ℕ) (d : Way) (old new : Below) → i < length ways
    → ((x : ℕ) → LeadsAway (take i ways) q x → Includes old (slice_index_or belows x Nothing)) → Includes new old
    → ((get_or ways i d).from ≡ q → Includes new (slice_index_or belows (get_or ways i d).to Nothing))
    → (x : ℕ) → LeadsAway (take (i + 1) ways) q x → Includes new (slice_index_or belows x Nothing)
includes_more belows q ways i d old new within before includes one x away = elim ((away_more ways i d q x within).0 away) [
  | inl early ↦ λ class covers. includes class (before x early class covers)
  | inr last ↦ subst (λ y. Includes new (slice_index_or belows y Nothing)) (sym last.1) (one last.0)
]

-- what is below a state, from its ends, the state that it leads on to, and its ways
pub below_is : (t : Tables) (classes : List ℕ) (belows : List Below) (q : ℕ) (ends : List End) (ways : List Way) (first second third : Below)
    → q < length t.states
    → ((end : End) → Contains t.ends.items end → end.state ≡ q → Contains ends end)
    → All (Contains t.ways.items) ways → ((way : Way) → Contains t.ways.items way → way.from ≡ q → Contains ways way)
    → ((e : End) → Contains ends e → Covers first (class_at classes e.pattern))
    → Includes second first → ((x : ℕ) → LeadsOn t.states q x → Includes second (slice_index_or belows x Nothing))
    → Includes third second → ((x : ℕ) → LeadsAway ways q x → Includes third (slice_index_or belows x Nothing))
    → IsBelowAt (graph_of t) classes belows q third
below_is t classes belows q ends ways first second third inside each_end only each own on next more away = record {
  own = λ p at.
      let there = end_there t q p at in
      more (class_at classes p) (on (class_at classes p) (subst (λ r. Covers first (class_at classes r)) there.3 (own there.0 (each_end there.0 there.1 there.2))));
  on = λ x leads. elim ((leads_both t q x inside).0 leads) [
    | inl led ↦ λ class covers. more class (next x led class covers)
    | inr led ↦ away x ((away_around t.ways.items ways q x only each).0 led)
  ];
}
  where
    end_there : (t : Tables) (q p : ℕ) → EndsAt (graph_of t) q p → (end : End) × Contains t.ends.items end × (end.state ≡ q) × (end.pattern ≡ p)
    end_there t q p at = let found = Contains-map_cases (λ (e : End). (e.state, e.pattern)) t.ends.items (q, p) at in (found.0, found.1, ap (λ (pair : ℕ × ℕ). pair.0) found.2, ap (λ (pair : ℕ × ℕ). pair.1) found.2)

-- where those of all later states are known, those of a state that come to be known change none of them
pub belows_more : (g : Graph) (classes : List ℕ) (states left : ℕ) (old : List Below) (below : Below) → IsLaid g → left < states → length old ≡ states
    → IsBelowAt g classes old left below
    → ((q : ℕ) → left + 1 ≤ q → q < states → IsBelowAt g classes old q (slice_index_or old q Nothing))
    → (q : ℕ) → left ≤ q → q < states → IsBelowAt g classes (set old left below) q (slice_index_or (set old left below) q Nothing)
belows_more g classes states left old below laid within count here behind q from inside = elim (cases_lt left q) [
  | inl later ↦ subst (λ b. IsBelowAt g classes (set old left below) q b) (sym (other q later)) (moved q (slice_index_or old q Nothing) from (behind q (omega arith) inside))
  | inr not_later ↦
      let same : q ≡ left = omega (arith, from, not_later) in
      subst (λ i. IsBelowAt g classes (set old left below) i (slice_index_or (set old left below) i Nothing)) (sym same)
      (subst (λ b. IsBelowAt g classes (set old left below) left b) (sym (get_or-set_same old left below Nothing (omega arith))) (moved left below (omega arith) here))
]
  where
    other : (x : ℕ) → left < x → slice_index_or (set old left below) x Nothing ≡ slice_index_or old x Nothing
    other x later = get_or-set_other old left x below Nothing (λ same. omega (arith, same))

    moved : (q : ℕ) (b : Below) → left ≤ q → IsBelowAt g classes old q b → IsBelowAt g classes (set old left below) q b
    moved q b from is = record {
      own = is.own;
      on = λ x leads. let later = laid.later q x leads in subst (λ c. Includes b c) (sym (other x (omega arith))) (is.on x leads);
    }

-- the number of a class
below_of-more : (own : ℕ) → below_of (own + 2) ≡ One own
below_of-more own = rw (not_zero, not_one) (ap One same)
  where
    not_zero : (own + 2 == 0) ≡ false
    not_zero = grind (arith, nat_tests)

    not_one : (own + 2 == 1) ≡ false
    not_one = grind (arith, nat_tests)

    same : own + 2 - 2 ≡ own
    same = omega arith

-- the number of what is below a state leaves no class out
pub kept-includes : (below : Below) → Includes (as_kept below) below
kept-includes Nothing class covers = covers
kept-includes (One own) class covers = by (nat_lt own numbered_classes) refl
  where
    by : (room : Bool) → nat_lt own numbered_classes ≡ room → Covers (below_of (if room then own + 2 else 1)) class
    by true e = subst (λ b. Covers b class) (sym (below_of-more own)) covers
    by false e = tt
kept-includes Several class covers = covers

-- nothing below some states
pub none-below : (states : ℕ) → map below_of (replicate states 0) ≡ replicate states Nothing
none-below zero = refl
none-below (suc states) = ap (λ belows. Nothing ∷ belows) (none-below states)

-- what is below a state is so as it is kept
pub kept-below : (g : Graph) (classes : List ℕ) (belows : List Below) (q : ℕ) (below : Below) → IsBelowAt g classes belows q below → IsBelowAt g classes belows q (as_kept below)
kept-below g classes belows q below is = record {
  own = λ p at. kept-includes below (class_at classes p) (is.own p at);
  on = λ x leads class covers. kept-includes below class (is.on x leads class covers);
}

-- a test that fails for two states: no class below the one differs from one below the other
pub clash-covered : (one other : Below) (c d : ℕ) → Covers one c → Covers other d → (c ≡ d → ⊥) → can_clash one other ≡ true
clash-covered Nothing other c d first second differ = absurd first
clash-covered (One own) Nothing c d first second differ = absurd second
clash-covered (One own) (One another) c d first second differ = by (own == another) refl
  where
    by : (b : Bool) → (own == another) ≡ b → not (own == another) ≡ true
    by true e = let same : own ≡ another = eqb-true own another e in absurd (differ (first ∙ same ∙ sym second))
    by false e = rw e refl
clash-covered (One own) Several c d first second differ = refl
clash-covered Several Nothing c d first second differ = absurd second
clash-covered Several (One another) c d first second differ = refl
clash-covered Several Several c d first second differ = refl

-- one that holds: some class below the one differs from one below the other
abbrev pub Differ : Below → Below → Type 0
Differ one other = (c : ℕ) × (d : ℕ) × Covers one c × Covers other d × (c ≡ d → ⊥)

pub clash-differ : (one other : Below) → can_clash one other ≡ true → Differ one other
clash-differ Nothing other h = absurd (cc)
clash-differ (One own) Nothing h = absurd (cc)
clash-differ (One own) (One another) h = (own, another, refl, refl, λ same. off same)
  where
    off : own ≡ another → ⊥
    off same = let yes : (own == another) ≡ true = ap (λ n. own == n) (sym same) ∙ self own in let wrong : false ≡ true = rw yes at h in absurd (cc)
      where
        self : (n : ℕ) → (n == n) ≡ true
        self n = grind (arith, nat_tests)
clash-differ (One own) Several h = (own, own + 1, refl, tt, λ same. omega (arith, same))
clash-differ Several Nothing h = absurd (cc)
clash-differ Several (One another) h = (another + 1, another, tt, refl, λ same. omega (arith, same))
clash-differ Several Several h = (0, 1, tt, tt, λ same. omega (arith, same))

-- what may clash behind two states may clash at them
pub clash-includes : (one other more another : Below) → Includes more one → Includes another other → can_clash one other ≡ true → can_clash more another ≡ true
clash-includes one other more another first second h =
    let at = clash-differ one other h in clash-covered more another at.0 at.1 (first at.0 at.2) (second at.1 at.3) at.4

pub clash-turned : (one other : Below) → can_clash one other ≡ true → can_clash other one ≡ true
clash-turned one other h = let at = clash-differ one other h in clash-covered other one at.1 at.0 at.3 at.2 (λ same. at.4 (sym same))
