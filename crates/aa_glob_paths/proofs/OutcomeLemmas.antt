-- Outcomes of sets, one after the other.
use Rattle.std.proofs.Common.{◌≡◌, ◌≢◌, ℕ, ◌+◌, ◌≤◌, ◌<◌, ◌==◌, List, [], ◌∷◌, ◌++◌, length, get_or, reverse, refl, sym, ◌∙◌, ap, subst, inl, inr, arith, eq-eqb, eqb-true}
use Rattle.std.proofs.lemmas.Bool.{and_parts, cases_eq, true≢false}
use Rattle.std.proofs.lemmas.List.Folds.{Any-from_list_any, list_any-from_Any}
use Rattle.std.proofs.lemmas.List.{length-reverse, map-append}
use Rattle.std.proofs.lemmas.List.Elements.{All-contains, All-map, All-push, All-weaker, Contains-append_left, Contains-get_or, Contains-push}
use Rattle.std.proofs.lemmas.List.Quantifiers.{all_pairs_push}
use Rattle.std.specs.Prelude.{All, Bool, Contains, false, is_some, not, true, ◌&&◌}
use Rattle.aa_glob_nfa.specs.Graphs.{Graph}
use Rattle.aa_glob_nfa.proofs.ListLemmas.{Contains-map}
use Rattle.aa_glob_paths.specs.Found.{AreByLength, FoundSet, IsFoundBehind, set_at}
use Rattle.aa_glob_paths.specs.SetLaws.{EndIn}
use Rattle.aa_glob_paths.specs.Settled.{passed_over_class}
use Rattle.aa_glob_paths.specs.Wanted.{wanted_class}
use Rattle.aa_glob_nfa.specs.OfTables.{graph_of}
use Rattle.aa_glob_nfa.specs.declared.tables.Tables.{Tables}
use Rattle.aa_glob_pairs.specs.Graphs.{class_at}
use Rattle.aa_glob_pairs.specs.Pairs.{AreClassed}
use Rattle.aa_glob_paths.specs.AllPaths.{AreTold}
use Rattle.aa_glob_paths.proofs.PathLemmas.{same-ends}
use Rattle.aa_glob_paths.proofs.PlaceLemmas.{kept_at, key-kept, none-kept}
use Rattle.aa_glob_paths.specs.code.AllTexts.{AreOutcomesBefore, are_told, has_class, HasSetOf, IsFoundBy, IsOfEarlier}
use Rattle.aa_glob_paths.specs.code.Kept.{Entry, kept_outcomes, outcome_of}
use Rattle.aa_glob_paths.specs.declared.outcome.Outcome.{Outcome}

-- what was made of an earlier set has a path that is no longer than the text of a later one
no-longer : (found : List FoundSet) (number : ℕ) (o : Outcome) (past : List ℕ) → AreByLength found → number < length found → IsOfEarlier found number o
    → IsFoundBehind found number past → length o.path.items ≤ length past
no-longer found number o past in_order within at behind =
    let most = in_order at.0 number past (omega (arith, at.1)) within behind (reverse o.path.items) at.2 in
    omega (arith, most, length-reverse o.path.items)

-- the next number
earlier-on : (found : List FoundSet) (number : ℕ) (outcomes : List Outcome) → All (IsOfEarlier found number) outcomes → All (IsOfEarlier found (number + 1)) outcomes
earlier-on found number outcomes all =
    All-weaker (IsOfEarlier found number) (IsOfEarlier found (number + 1)) (λ o at. (at.0, omega (arith, at.1), at.2)) outcomes all

-- a set has an outcome, where a pattern that is wanted ends in it, and none that is passed over
abbrev HasIfTold : Graph → List ℕ → List FoundSet → List Outcome → ℕ → Type 0
HasIfTold g classes found outcomes n = (places : List ℕ) → EndIn g (set_at found n) places → AreTold classes places → HasSetOf g found outcomes n

each-on : (g : Graph) (classes : List ℕ) (found : List FoundSet) (number : ℕ) (old new : List Outcome)
    → ((n : ℕ) (places : List ℕ) → n < number → EndIn g (set_at found n) places → AreTold classes places → HasSetOf g found old n)
    → ((o : Outcome) → Contains old o → Contains new o) → HasIfTold g classes found new number
    → (n : ℕ) (places : List ℕ) → n < number + 1 → EndIn g (set_at found n) places → AreTold classes places → HasSetOf g found new n
each-on g classes found number old new before keeps here n places low ends want = elim (cases_eq n number) [
  | inl same ↦ subst (HasIfTold g classes found new) (sym same) here places ends want
  | inr other ↦ let early = before n places (omega (arith, low, other)) ends want in (early.0, keeps early.0 early.1, early.2, early.3)
]

-- the test tells whether one is of a class
of-class : (classes : List ℕ) (class : ℕ) (places : List ℕ) → has_class classes class places ≡ true → (p : ℕ) × Contains places p × (class_at classes p ≡ class)
of-class classes class places is =
    let any = Any-from_list_any (λ p. class_at classes p == class) places is in
    (any.1, (any.0, any.2, any.3), eqb-true (class_at classes any.1) class any.4)

none-of : (classes : List ℕ) (class : ℕ) (places : List ℕ) → has_class classes class places ≡ false → (p : ℕ) × Contains places p × (class_at classes p ≡ class) → ⊥
none-of classes class places none has =
    let any = list_any-from_Any (λ p. class_at classes p == class) places (has.1.0, has.0, has.1.1, has.1.2, eq-eqb (class_at classes has.0) class has.2) in
    true≢false (sym any ∙ none)

-- the test tells whether one is wanted and none passed over
pub are-told : (classes places : List ℕ) → are_told classes places ≡ true → AreTold classes places
are-told classes places is =
    let parts = and_parts (has_class classes wanted_class places) (not (has_class classes passed_over_class places)) is in
    record {
      wanted = of-class classes wanted_class places parts.0;
      none_passed_over = λ has. none-of classes passed_over_class places (not_true (has_class classes passed_over_class places) parts.1) has;
    }
  where
    not_true : (b : Bool) → not b ≡ true → b ≡ false
    not_true false h = refl
    not_true true h = absurd cc

none-told : (classes places : List ℕ) → are_told classes places ≡ false → AreTold classes places → ⊥
none-told classes places none told = by (has_class classes wanted_class places) (has_class classes passed_over_class places) refl refl none
  where
    by : (w p : Bool) → has_class classes wanted_class places ≡ w → has_class classes passed_over_class places ≡ p → (w && not p) ≡ false → ⊥
    by false p is other both = none-of classes wanted_class places is told.wanted
    by true true is other both = told.none_passed_over (of-class classes passed_over_class places other)
    by true false is other both = absurd cc

-- no pattern that is wanted ends in the set of a number, or one that is passed over
pub outcome-none : (g : Graph) (classes : List ℕ) (found : List FoundSet) (number : ℕ) (outcomes : List Outcome) (places : List ℕ)
    → AreOutcomesBefore g classes found number outcomes → EndIn g (set_at found number) places → are_told classes places ≡ false
    → AreOutcomesBefore g classes found (number + 1) outcomes
outcome-none g classes found number outcomes places before ends none = record {
  each = each-on g classes found number outcomes outcomes before.each (λ o h. h) (λ others there want.
      let same = same-ends g (set_at found number) others places there ends in
      absurd (none-told classes places none (record {
        wanted = (want.wanted.0, (same want.wanted.0).0 want.wanted.1, want.wanted.2);
        none_passed_over = λ has. want.none_passed_over (has.0, (same has.0).1 has.1, has.2);
      })));
  only = before.only;
  earlier = earlier-on found number outcomes before.earlier;
  order = before.order;
}

-- the set of a number has the places of an outcome that is there
pub outcome-there : (g : Graph) (classes : List ℕ) (found : List FoundSet) (number : ℕ) (outcomes : List Outcome) (o : Outcome) (places : List ℕ)
    → AreByLength found → number < length found → AreOutcomesBefore g classes found number outcomes
    → EndIn g (set_at found number) places → Contains outcomes o → o.places.items ≡ places → AreOutcomesBefore g classes found (number + 1) outcomes
outcome-there g classes found number outcomes o places in_order within before ends among same =
    let early = All-contains (IsOfEarlier found number) outcomes o before.earlier among in
    record {
      each = each-on g classes found number outcomes outcomes before.each (λ other h. h) (λ others there want. (
        o,
        among,
        subst (EndIn g (set_at found number)) (sym same) ends,
        λ past behind. no-longer found number o past in_order within early behind,
      ));
      only = before.only;
      earlier = earlier-on found number outcomes before.earlier;
      order = before.order;
    }

-- it has one of its own
pub outcome-more : (g : Graph) (classes : List ℕ) (found : List FoundSet) (number : ℕ) (outcomes : List Outcome) (one : Outcome)
    → AreByLength found → number < length found → AreOutcomesBefore g classes found number outcomes
    → EndIn g (set_at found number) one.places.items → IsFoundBy g classes one → IsFoundBehind found number (reverse one.path.items)
    → All (λ o. o.places.items ≢ one.places.items) outcomes → AreOutcomesBefore g classes found (number + 1) (outcomes ++ one ∷ [])
outcome-more g classes found number outcomes one in_order within before ends by behind differ =
    let back = length-reverse one.path.items in
    record {
      each = each-on g classes found number outcomes (outcomes ++ one ∷ []) before.each (λ o h. Contains-append_left outcomes (one ∷ []) o h) (λ others there want. (
        one,
        Contains-push outcomes one,
        ends,
        λ past at. let most = in_order number number past (omega arith) within at (reverse one.path.items) behind in omega (arith, most, back),
      ));
      only = All-push (IsFoundBy g classes) outcomes one before.only by;
      earlier = All-push (IsOfEarlier found (number + 1)) outcomes one (earlier-on found number outcomes before.earlier) (number, omega arith, behind);
      order = record {
        by_length = all_pairs_push (λ (a b : Outcome). length a.path.items ≤ length b.path.items) outcomes one before.order.by_length (λ k d low.
            let most = no-longer found number (get_or outcomes k d) (reverse one.path.items) in_order within (before.earlier k d low) behind in omega (arith, most, back));
        apart = all_pairs_push (λ (a b : Outcome). a.places.items ≢ b.places.items) outcomes one before.order.apart (λ k d low. differ k d low);
      };
    }

-- places that are kept are those of an outcome
pub kept-there : (places : List ℕ) (entries : List Entry) → is_some (kept_at places entries) ≡ true
    → (o : Outcome) × Contains (kept_outcomes entries) o × (o.places.items ≡ places)
kept-there places entries is = let kept = key-kept places entries is in (outcome_of kept.0, Contains-map outcome_of entries kept.0 kept.1, kept.2)

-- places that aren't differ from those of each
pub kept-none : (places : List ℕ) (entries : List Entry) → is_some (kept_at places entries) ≡ false → All (λ o. o.places.items ≢ places) (kept_outcomes entries)
kept-none places entries none = All-map (λ (o : Outcome). o.places.items ≢ places) outcome_of entries (none-kept places entries none)

pub kept-more : (entries more : List Entry) (entry : Entry) → more ≡ entries ++ entry ∷ [] → kept_outcomes more ≡ kept_outcomes entries ++ outcome_of entry ∷ []
kept-more entries more entry is = ap kept_outcomes is ∙ map-append outcome_of entries (entry ∷ [])

-- each pattern that ends in a set has a class
pub ends-classed : (t : Tables) (classes set places : List ℕ) → AreClassed t classes → EndIn (graph_of t) set places → All (λ p. p < length classes) places
ends-classed t classes set places classed ends k d low =
    let end = (ends (get_or places k d)).0 (Contains-get_or places k d low) in
    classed.each_pattern end.0 (get_or places k d) end.1
