-- The starts by paths that stand for all are those over all paths.
use Rattle.std.proofs.Common.{◌≡◌, ◌≤◌, Bool, true, List, [], ◌∷◌, ◌++◌, length, refl, sym, ◌∙◌, ap, subst, inl, inr, arith, take, drop, ◌-◌}
use Rattle.std.specs.Prelude.{AllPairs, Contains, Option, slice_index_or}
use Rattle.std.proofs.lemmas.List.{take_all}
use Rattle.aa_decide.specs.Exec.{Asker}
use Rattle.aa_decide_ready.specs.Entries.{Loaded}
use Rattle.aa_decide_ready.specs.Slots.{filled}
use Rattle.aa_glob_nfa.proofs.ListLemmas.{Contains-cons_cases, Contains-first, Contains-map_cases}
use Rattle.aa_glob_paths.specs.Laws.{paths_of}
use Rattle.aa_glob_paths.specs.declared.outcome.Outcome.{Outcome}
use Rattle.aa_explain_reach.specs.Places.{is_somewhere}
use Rattle.aa_explain_reach.specs.Starts.{HasStart, place_to_go}
use Rattle.aa_explain_reach.specs.code.Telling.{AddsStarts, AreStartsBy, is_absolute}
use Rattle.aa_explain_reach.specs.declared.start.Start.{Start}
use Rattle.aa_explain_reach.proofs.AlikeLemmas.{in-back, in-front}
use Rattle.aa_explain_reach.proofs.PutLemmas.{behind-cases, pairs-first, pairs-rest}

-- a list and its first element
pub split-first : {X : Type 0} (xs : List X) (x d : X) → 1 ≤ length xs → x ≡ slice_index_or xs 0 d → xs ≡ x ∷ take (length xs - 1) (drop 1 xs)
split-first [] x d some is = absurd (omega (arith, some))
split-first (y ∷ ys) x d some is = ap (λ z. z ∷ ys) (sym is) ∙ ap (λ l. x ∷ l) (sym (take_all (length (y ∷ ys) - 1) ys (omega arith)))

abbrev pub ByLength : List Outcome → Type 0
ByLength outcomes = AllPairs (λ one later. length one.path.items ≤ length later.path.items) outcomes

-- what stands before an outcome has no longer a path
pub before-shorter : (done : List Outcome) (o : Outcome) (rest : List Outcome) → ByLength (done ++ o ∷ rest) → (one : Outcome) → Contains done one
    → length one.path.items ≤ length o.path.items
before-shorter [] o rest rise one at = absurd (omega (arith, at.1))
before-shorter (d ∷ done) o rest rise one at = elim (Contains-cons_cases d done one at) [
  | inl same ↦
      subst (λ (x : Outcome). length x.path.items ≤ length o.path.items) same
      (pairs-first (λ (one later : Outcome). length one.path.items ≤ length later.path.items) d (done ++ o ∷ rest) rise o
      (in-back done (o ∷ rest) o (Contains-first o rest)))
  | inr more ↦
      before-shorter done o rest (pairs-rest (λ (one later : Outcome). length one.path.items ≤ length later.path.items) d (done ++ o ∷ rest) rise) one more
]

-- the paths of outcomes, and of one behind them
pub paths-then : (done : List Outcome) (o : Outcome) → paths_of (done ++ o ∷ []) ≡ paths_of done ++ o.path.items ∷ []
paths-then [] o = refl
paths-then (d ∷ done) o = ap (λ l. d.path.items ∷ l) (paths-then done o)

module _ (slots : List (Option Loaded)) (asker : Option Asker) where
  -- there are none yet
  pub starts-none : (starts : List Start) → starts ≡ [] → AreStartsBy slots asker [] starts
  starts-none starts none = subst (AreStartsBy slots asker []) (sym none) (record {
    each = λ start at. absurd (omega (arith, at.1));
    told = λ path at. absurd (omega (arith, at.1));
    apart = λ i j d before within. absurd (omega (arith, within));
  })

  -- those of one path more
  pub starts-then : (done : List Outcome) (o : Outcome) (rest : List Outcome) (old new : List Start) → ByLength (done ++ o ∷ rest)
      → AreStartsBy slots asker (paths_of done) old → AddsStarts slots asker o.path.items old new → AreStartsBy slots asker (paths_of (done ++ o ∷ [])) new
  starts-then done o rest old new rise by adds = subst (λ paths. AreStartsBy slots asker paths new) (sym (paths-then done o)) (record {
    each = λ start at. elim (adds.fresh start at) [
      | inl before ↦
          let is = by.each start before in
          (in-front (paths_of done) (o.path.items ∷ []) start.path.items is.0, is.1, is.2)
      | inr fresh ↦ (
        in-back (paths_of done) (o.path.items ∷ []) start.path.items (subst (λ p. Contains (p ∷ []) start.path.items) fresh.0 (Contains-first start.path.items [])),
        fresh.1,
        ap is_absolute fresh.0 ∙ fresh.2,
      )
    ];
    told = λ path at absolute owned goes. elim (behind-cases (paths_of done) o.path.items path at) [
      | inl before ↦
          let has = by.told path before absolute owned goes in
          record { start = has.start; among = adds.kept has.start has.among; seen = has.seen; no_longer = has.no_longer }
      | inr same ↦ subst (λ p. HasStart slots new p (place_to_go (filled slots) asker owned p)) (sym same)
          (here owned (ap is_absolute (sym same) ∙ absolute) (ap (λ p. is_somewhere (place_to_go (filled slots) asker owned p)) (sym same) ∙ goes))
    ];
    apart = adds.apart by.apart;
  })
    where
      -- each start there is has no longer a path
      low : (start : Start) → Contains new start → length start.path.items ≤ length o.path.items
      low start at = elim (adds.fresh start at) [
        | inl before ↦
            let found = Contains-map_cases (λ (o : Outcome). o.path.items) done start.path.items (by.each start before).0 in
            subst (λ p. length p ≤ length o.path.items) found.2 (before-shorter done o rest rise found.0 found.1)
        | inr fresh ↦ subst (λ p. length p ≤ length o.path.items) (sym fresh.0) (omega arith)
      ]

      here : (owned : Bool) → is_absolute o.path.items ≡ true → is_somewhere (place_to_go (filled slots) asker owned o.path.items) ≡ true
          → HasStart slots new o.path.items (place_to_go (filled slots) asker owned o.path.items)
      here owned absolute goes =
          let there = adds.told absolute owned goes in
          record { start = there.0; among = there.1; seen = there.2; no_longer = low there.0 there.1 }
