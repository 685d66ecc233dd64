-- States that live together, in whatever order they are told.
use Rattle.std.proofs.Common.{◌≡◌, ℕ, ◌<◌, Bool, true, false, not, ◌&&◌, ◌==◌, List, [], ◌∷◌, eqb-true, refl, sym, ◌∙◌, inl, inr, eq-eqb}
use Rattle.std.proofs.Math.Dec.{eqb}
use Rattle.std.proofs.lemmas.Bool.{cases_Bool, true≢false, or_parts, or_from}
use Rattle.std.proofs.lemmas.List.Kept.{AllPairs-from_increasing}
use Rattle.std.proofs.lemmas.List.Sorted.{All-permutation, Contains-permutation}
use Rattle.std.proofs.lemmas.Map.Keys.{IsDistinct-IsPermutation, IsStrictlyIncreasing-from_distinct}
use Rattle.std.proofs.lemmas.List.Elements.{All-contains}
use Rattle.std.proofs.lemmas.List.Folds.{Any-from_list_any, list_any-from_Any}
use Rattle.std.specs.Prelude.{Contains}
use Rattle.std.specs.List.{AllByRecursion, IsDistinct, list_any}
use Rattle.std.specs.List.Sorted.{IsNonDecreasing, IsPermutation}
use Rattle.aa_glob_nfa.specs.Graphs.{Graph, Reaches}
use Rattle.aa_glob_nfa.specs.Fronts.{AreDistinct, is_in, IsLive}
use Rattle.aa_glob_nfa.specs.Runs.{IsWhole, LeadsTo}
use Rattle.aa_glob_paths.specs.Found.{IsStateSet}
use Rattle.aa_glob_paths.specs.Reachable.{IsOver, is_settled, matters}

-- no number of a list is another, by recursion on the list
none-all : (r : ℕ) (xs : List ℕ) → is_in r xs ≡ false → AllByRecursion (λ x. eqb r x ≡ false) xs
none-all r [] none = tt
none-all r (x ∷ xs) none = let parts = or_parts (r == x) (is_in r xs) none in (parts.0, none-all r xs parts.1)

all-none : (r : ℕ) (xs : List ℕ) → AllByRecursion (λ x. eqb r x ≡ false) xs → is_in r xs ≡ false
all-none r [] all = refl
all-none r (x ∷ xs) all = or_from (r == x) (is_in r xs) all.0 (all-none r xs all.1)

-- no number stands twice, as the library says it
distinct-there : (xs : List ℕ) → AreDistinct xs → IsDistinct eqb xs
unfolding IsDistinct
distinct-there [] distinct = tt
distinct-there (x ∷ xs) distinct = (none-all x xs distinct.0, distinct-there xs distinct.1)

distinct-back : (xs : List ℕ) → IsDistinct eqb xs → AreDistinct xs
unfolding IsDistinct
distinct-back [] distinct = tt
distinct-back (x ∷ xs) distinct = (all-none x xs distinct.0, distinct-back xs distinct.1)

eqb-turned : (q r : ℕ) → eqb q r ≡ eqb r q
eqb-turned q r = elim (cases_Bool (eqb q r)) [
  | inl same ↦ same ∙ sym (eq-eqb r q (sym (eqb-true q r same)))
  | inr other ↦ elim (cases_Bool (eqb r q)) [
    | inl same ↦ absurd (true≢false (sym (eq-eqb q r (sym (eqb-true r q same))) ∙ other))
    | inr none ↦ other ∙ sym none
  ]
]

-- states of which none stands twice are a set, once they are put in order
pub set-in_order : (room : ℕ) (xs ys : List ℕ) → IsPermutation xs ys → IsNonDecreasing ys → IsLive room xs → IsStateSet room ys
set-in_order room xs ys moved order live =
    let distinct = IsDistinct-IsPermutation eqb eqb-turned xs ys moved (distinct-there xs live.0) in
    record {
      live = (distinct-back ys distinct, All-permutation (λ r. r < room) xs ys moved live.1);
      rise = AllPairs-from_increasing ys (IsStrictlyIncreasing-from_distinct ys order distinct);
    }

-- a list has all that is reached behind a text in any order
pub whole-permutation : (g : Graph) (past xs ys : List ℕ) → IsPermutation xs ys → IsWhole g past xs → IsWhole g past ys
whole-permutation g past xs ys moved whole = record {
  reached = All-permutation (Reaches g past) xs ys moved whole.reached;
  each = λ r at. Contains-permutation xs ys r moved (whole.each r at);
}

-- where none of the states matters that live behind a byte, nothing that matters does
over-none : (g : Graph) (wanted settled : List Bool) (from to : List ℕ) (c : ℕ) → LeadsTo g from c to → list_any (matters wanted) to ≡ false
    → IsOver g wanted settled from c
over-none g wanted settled from to c leads none past whole lives unsettled =
    let there : Contains to lives.0 = (leads past whole).each lives.0 lives.1 in
    true≢false (sym (list_any-from_Any (matters wanted) to (there.0, lives.0, there.1, there.2, lives.2)) ∙ none)

-- where one of them is settled, something that is settled lives there
over-settled : (g : Graph) (wanted settled : List Bool) (from to : List ℕ) (c : ℕ) → LeadsTo g from c to → list_any (is_settled settled) to ≡ true
    → IsOver g wanted settled from c
over-settled g wanted settled from to c leads some past whole lives unsettled =
    let any = Any-from_list_any (is_settled settled) to some in
    unsettled any.1 (All-contains (Reaches g (c ∷ past)) to any.1 (leads past whole).reached (any.0, any.2, any.3)) any.4

-- states that aren't kept
pub over-unkept : (g : Graph) (wanted settled : List Bool) (from to : List ℕ) (c : ℕ) → LeadsTo g from c to
    → (list_any (matters wanted) to && not (list_any (is_settled settled) to)) ≡ false → IsOver g wanted settled from c
over-unkept g wanted settled from to c leads unkept = by (list_any (matters wanted) to) (list_any (is_settled settled) to) refl refl unkept
  where
    by : (m s : Bool) → list_any (matters wanted) to ≡ m → list_any (is_settled settled) to ≡ s → (m && not s) ≡ false → IsOver g wanted settled from c
    by false s none is kept = over-none g wanted settled from to c leads none
    by true true some is kept = over-settled g wanted settled from to c leads is
    by true false some is kept = absurd cc
