-- What is told of a written rule by paths that stand for all that it matches is right of all paths.
use Rattle.std.proofs.Common.{◌≡◌, ℕ, suc, ◌≤◌, Bool, true, false, not, ◌&&◌, List, [], ◌∷◌, length, refl, sym, ap, subst, inl, inr, arith}
use Rattle.std.proofs.lemmas.Bool.{and_parts}
use Rattle.std.proofs.lemmas.List.Elements.{All-contains}
use Rattle.std.specs.Prelude.{Contains}
use Rattle.aa_explain_paths.proofs.TellingLemmas.{matched-told, outcome-asked, outcome-matched}
use Rattle.aa_explain_paths.specs.Meant.{is_matched, may_be_asked, unasked_patterns}
use Rattle.aa_explain_paths.specs.Telling.{classes_among, telling_among}
use Rattle.aa_glob_nfa.proofs.ListLemmas.{Contains-cons_cases, Contains-first, Contains-map_cases}
use Rattle.aa_glob_paths.specs.AllPaths.{IsOutcome, TellAllPaths}
use Rattle.aa_glob_paths.specs.Laws.{OutcomesStandForAll, paths_of}
use Rattle.aa_glob_paths.specs.declared.outcome.Outcome.{Outcome}
use Rattle.aa_explain_redundant.specs.Left.{WrittenRules, numbered}
use Rattle.aa_explain_redundant.specs.Examples.{IsPathOf, IsExampleOf, IsShortestPathOf, own_patterns}
use Rattle.aa_explain_redundant.specs.code.Examples.{example_by}

not-true : (b : Bool) → not b ≡ true → b ≡ false
not-true false h = refl
not-true true h = absurd cc

both-true : (a b : Bool) → a ≡ true → b ≡ true → (a && b) ≡ true
both-true true true h k = refl
both-true true false h k = absurd cc
both-true false b h k = absurd cc

module _ (stand : OutcomesStandForAll) (wanted : List (List ℕ)) where
  abbrev all : List (List ℕ)
  all = telling_among [] wanted unasked_patterns

  abbrev classes : List ℕ
  classes = classes_among [] wanted unasked_patterns

  -- a path that is meant has an outcome whose own is no longer
  standing : (outcomes : List Outcome) → TellAllPaths all classes outcomes → (path : List ℕ) → IsPathOf wanted path
      → (o : Outcome) × Contains outcomes o × (length o.path.items ≤ length path)
  standing outcomes told path one =
      let parts = and_parts (is_matched wanted path) (may_be_asked path) one.meant in
      let found = stand all classes outcomes told path one.bytes (matched-told [] wanted unasked_patterns path parts.0 (not-true (is_matched unasked_patterns path) parts.1)) in
      let o = Contains-map_cases (λ (o : Outcome). o.path.items) outcomes found.0 found.1 in
      (o.0, o.1, subst (λ p. length p ≤ length path) (sym o.2) found.2.no_longer)

  -- the path of an outcome is meant
  is-path : (o : Outcome) → IsOutcome all classes o → IsPathOf wanted o.path.items
  is-path o is = record {
    bytes = is.bytes;
    meant = both-true (is_matched wanted o.path.items) (may_be_asked o.path.items) (outcome-matched [] wanted unasked_patterns o is)
        (ap not (outcome-asked [] wanted unasked_patterns o is));
  }

  -- where there is no outcome no path is meant
  none-meant : TellAllPaths all classes [] → (path : List ℕ) → IsPathOf wanted path → ⊥
  none-meant told path one = let found = standing [] told path one in omega (arith, found.1.1)

  -- that of the first is one of the shortest
  first-shortest : (o : Outcome) (os : List Outcome) → TellAllPaths all classes (o ∷ os) → IsShortestPathOf wanted o.path.items
  first-shortest o os told = record {
    one = is-path o (All-contains (IsOutcome all classes) (o ∷ os) o told.each_outcome (Contains-first o os));
    shortest = λ other meant.
        let found = standing (o ∷ os) told other meant in
        let least : length o.path.items ≤ length found.0.path.items = elim (Contains-cons_cases o os found.0 found.1) [
          | inl own ↦ subst (λ (x : Outcome). length o.path.items ≤ length x.path.items) own (omega arith)
          | inr more ↦
              subst (λ (x : Outcome). length o.path.items ≤ length x.path.items) more.2
              (told.by_length 0 (suc more.0) found.0 (omega arith) (omega (arith, more.1)))
        ] in
        omega (arith, least, found.2);
  }

pub example-right : OutcomesStandForAll → (rules : WrittenRules) (gone : List ℕ) (number : ℕ) (outcomes : List Outcome)
    → TellAllPaths (telling_among [] (own_patterns (numbered rules) number) unasked_patterns) (classes_among [] (own_patterns (numbered rules) number) unasked_patterns) outcomes
    → IsExampleOf rules gone number (example_by (numbered rules) gone number (paths_of outcomes))
example-right stand rules gone number [] told = none-meant stand (own_patterns (numbered rules) number) told
example-right stand rules gone number (o ∷ os) told = (first-shortest stand (own_patterns (numbered rules) number) o os told, refl)
