-- The starts that lead elsewhere by some paths, and by one more.
use Rattle.std.proofs.Common.{◌≡◌, ◌≤◌, Bool, true, List, [], ◌∷◌, ◌++◌, length, sym, ◌∙◌, ap, subst, inl, inr, arith}
use Rattle.std.specs.Prelude.{Contains}
use Rattle.aa_explain_reach.proofs.AlikeLemmas.{in-back, in-front}
use Rattle.aa_explain_reach.proofs.PutLemmas.{behind-cases}
use Rattle.aa_explain_reach.proofs.StandLemmas.{ByLength, before-shorter, paths-then}
use Rattle.aa_explain_start_changes.specs.StartChanges.{LeadElsewhere, TellsLeads, leads_of}
use Rattle.aa_explain_start_changes.specs.Starters.{Starters}
use Rattle.aa_explain_start_changes.specs.code.Telling.{AddsChanges, AreChangesBy, is_absolute}
use Rattle.aa_explain_start_changes.specs.declared.changes.StartChange.{StartChange}
use Rattle.aa_glob_nfa.proofs.ListLemmas.{Contains-first, Contains-map_cases}
use Rattle.aa_glob_paths.specs.Laws.{paths_of}
use Rattle.aa_glob_paths.specs.declared.outcome.Outcome.{Outcome}

module _ (starters : Starters) where
  -- there are none yet
  pub changes-none : (changes : List StartChange) → changes ≡ [] → AreChangesBy starters [] changes
  changes-none changes none = subst (AreChangesBy starters []) (sym none) (record {
    each = λ change at. absurd (omega (arith, at.1));
    told = λ path at. absurd (omega (arith, at.1));
    apart = λ i j d before within. absurd (omega (arith, within));
  })

  -- those of one path more
  pub changes-then : (done : List Outcome) (o : Outcome) (rest : List Outcome) (old new : List StartChange) → ByLength (done ++ o ∷ rest)
      → AreChangesBy starters (paths_of done) old → AddsChanges starters o.path.items old new → AreChangesBy starters (paths_of (done ++ o ∷ [])) new
  changes-then done o rest old new rise by adds = subst (λ paths. AreChangesBy starters paths new) (sym (paths-then done o)) (record {
    each = λ change at. elim (adds.fresh change at) [
      | inl before ↦
          let is = by.each change before in
          (in-front (paths_of done) (o.path.items ∷ []) change.path.items is.0, is.1, is.2)
      | inr fresh ↦ (
        in-back (paths_of done) (o.path.items ∷ []) change.path.items (subst (λ p. Contains (p ∷ []) change.path.items) fresh.0 (Contains-first change.path.items [])),
        fresh.1,
        ap is_absolute fresh.0 ∙ fresh.2,
      )
    ];
    told = λ path at absolute owned other. elim (behind-cases (paths_of done) o.path.items path at) [
      | inl before ↦
          let tells = by.told path before absolute owned other in
          record { change = tells.change; among = adds.kept tells.change tells.among; same = tells.same; no_longer = tells.no_longer }
      | inr same ↦
          subst (λ p. TellsLeads starters new p (leads_of starters owned p)) (sym same)
          (here owned (ap is_absolute (sym same) ∙ absolute) (subst (λ p. LeadElsewhere (leads_of starters owned p)) same other))
    ];
    apart = adds.apart by.apart;
  })
    where
      -- each start there is has no longer a path
      low : (change : StartChange) → Contains new change → length change.path.items ≤ length o.path.items
      low change at = elim (adds.fresh change at) [
        | inl before ↦
            let found = Contains-map_cases (λ (o : Outcome). o.path.items) done change.path.items (by.each change before).0 in
            subst (λ p. length p ≤ length o.path.items) found.2 (before-shorter done o rest rise found.0 found.1)
        | inr fresh ↦ subst (λ p. length p ≤ length o.path.items) (sym fresh.0) (omega arith)
      ]

      here : (owned : Bool) → is_absolute o.path.items ≡ true → LeadElsewhere (leads_of starters owned o.path.items)
          → TellsLeads starters new o.path.items (leads_of starters owned o.path.items)
      here owned absolute other =
          let there = adds.told absolute owned other in
          record { change = there.0; among = there.1; same = there.2; no_longer = low there.0 there.1 }
