-- Counts of visits, place by place.
use Rattle.std.proofs.Common.{◌≡◌, ◌≢◌, ℕ, zero, suc, ◌+◌, ◌-◌, ◌≤◌, List, [], ◌∷◌, ◌++◌, length, take, drop, reverse, refl, sym, ◌∙◌, ap, subst, arith}
use Rattle.std.proofs.lemmas.Bool.{both_ways}
use Rattle.std.proofs.lemmas.List.{get_or_default, take-take}
use Rattle.std.proofs.lemmas.List.Elements.{All-contains}
use Rattle.std.proofs.lemmas.List.Kept.{AllPairs-cons}
use Rattle.std.specs.Prelude.{All, AllPairs, Contains, None}
use Rattle.aa_glob_nfa.specs.Graphs.{Graph, Reaches}
use Rattle.aa_glob_nfa.specs.Steps.{counted}
use Rattle.aa_glob_nfa.specs.Visits.{AreEach, CountsVisits, CountsFirstVisits, CountsAllVisits}
use Rattle.aa_glob_nfa.specs.Fronts.{is_in, with_state, AreDistinct, Live}
use Rattle.aa_glob_nfa.specs.Runs.{HasRun, IsBegun, IsPassed, IsWhole}
use Rattle.aa_glob_nfa.proofs.FrontLemmas.{is_in-from_Contains}
use Rattle.aa_glob_nfa.proofs.RunLemmas.{dead_behind, none_later, reverse-split, running_start}
use Rattle.aa_glob_nfa.proofs.StepLemmas.{counted-counted}

-- the states of a front are different ones
apart-from_distinct : (rs : List ℕ) → AreDistinct rs → AllPairs (λ x y. x ≢ y) rs
apart-from_distinct [] distinct = λ i j d before within. absurd (omega arith)
apart-from_distinct (r ∷ rs) distinct =
    let others : All (λ x. r ≢ x) rs = λ k d within same.
    let there : Contains rs r = (k, within, get_or_default rs k r d within ∙ sym same) in
    absurd (both_ways (is_in r rs) distinct.0 (is_in-from_Contains r rs there)) in
    AllPairs-cons (λ x y. x ≢ y) r rs others (apart-from_distinct rs distinct.1)

-- a front has each state that is reached, once
each-reached : (g : Graph) (past live : List ℕ) → IsWhole g past live → AreDistinct live → AreEach (Reaches g past) live
each-reached g past live whole distinct = record {
  members = λ r. (λ there. All-contains (Reaches g past) live r whole.reached there, λ at. whole.each r at);
  apart = apart-from_distinct live distinct;
}

-- no place yet
pub counts_none : (g : Graph) (text : List ℕ) (old : ℕ) → CountsVisits (Reaches g) text 0 old old
counts_none g text old = (0, refl, refl)

-- the visits at one place more
pub counts_more : (g : Graph) (text live : List ℕ) (place old mid new : ℕ) → CountsVisits (Reaches g) text place old mid
    → IsWhole g (reverse (take place text)) live → AreDistinct live → new ≡ counted mid (length live) → CountsVisits (Reaches g) text (suc place) old new
counts_more g text live place old mid new counts whole distinct steps = (
  counts.0 + length live,
  (counts.0, counts.1, live, each-reached g (reverse (take place text)) live whole distinct, refl),
  steps ∙ ap (λ s. counted s (length live)) counts.2 ∙ counted-counted old counts.0 (length live),
)

-- where nothing is reached behind the first bytes of a text, nothing is behind more of them
none-reached : (g : Graph) (text : List ℕ) (n p : ℕ) → n ≤ p → ((q : ℕ) → Reaches g (reverse (take n text)) q → ⊥) → AreEach (Reaches g (reverse (take p text))) []
none-reached g text n p up dead =
    let split : reverse (take p text) ≡ reverse (drop n (take p text)) ++ reverse (take n text) =
    reverse-split n (take p text) ∙ ap (λ l. reverse (drop n (take p text)) ++ reverse l) (take-take n p text up) in
    record {
      members = λ r. (
        λ there. absurd (omega (arith, there.1)),
        λ at. absurd (none_later g (reverse (take n text)) (reverse (drop n (take p text))) r dead (subst (λ l. Reaches g l r) split at)),
      );
      apart = apart-from_distinct [] tt;
    }

counts_dead : (g : Graph) (text : List ℕ) (n k old new : ℕ) → ((q : ℕ) → Reaches g (reverse (take n text)) q → ⊥) → CountsVisits (Reaches g) text n old new
    → CountsVisits (Reaches g) text (k + n) old new
counts_dead g text n zero old new dead counts = let none : n ≡ 0 + n = omega arith in subst (λ places. CountsVisits (Reaches g) text places old new) none counts
counts_dead g text n (suc k) old new dead counts =
    let before = counts_dead g text n k old new dead counts in
    let same : before.0 ≡ before.0 + 0 = omega arith in
    let up : n ≤ k + n = omega arith in
    let next : CountsVisits (Reaches g) text (suc (k + n)) old new = (before.0, (before.0, before.1, [], none-reached g text n (k + n) up dead, same), before.2) in
    let one_more : suc (k + n) ≡ suc k + n = omega arith in
    subst (λ places. CountsVisits (Reaches g) text places old new) one_more next

-- a run that ends early, where nothing lives, made the visits at all places
pub counts_early : (g : Graph) (text live : List ℕ) (n old new : ℕ) → n ≤ length text → IsBegun g (reverse (take n text)) live → length live ≡ 0
    → CountsVisits (Reaches g) text n old new → CountsAllVisits (Reaches g) text old new
counts_early g text live n old new within begun none counts =
    let all : (suc (length text) - n) + n ≡ suc (length text) = omega arith in
    subst (λ places. CountsVisits (Reaches g) text places old new) all
    (counts_dead g text n (suc (length text) - n) old new (dead_behind g (reverse (take n text)) live begun none) counts)

-- visits at some places that are known are so at some
pub counts_first : (g : Graph) (text : List ℕ) (places old new : ℕ) → places ≤ suc (length text) → CountsVisits (Reaches g) text places old new
    → CountsFirstVisits (Reaches g) text old new
counts_first g text places old new within counts = (places, within, counts)

-- the run made the visits at its last place, which is the text's end
pub counts_all : (g : Graph) (text : List ℕ) (old mid new : ℕ) (here mine behind : Live) (i : ℕ) → i ≡ length text → IsBegun g (reverse (take i text)) here.states
    → IsPassed g None here mine behind → CountsVisits (Reaches g) text i old mid → new ≡ counted mid (length mine.states) → CountsAllVisits (Reaches g) text old new
counts_all g text old mid new here mine behind i end begun passed counts steps =
    subst (λ n. CountsVisits (Reaches g) text (suc n) old new) end
    (counts_more g text mine.states i old mid new counts (passed.whole (reverse (take i text)) begun) passed.distinct steps)

-- before a text, where state 0 lives
pub run_started : (g : Graph) (text : List ℕ) (room old : ℕ) (empty here next : Live) → empty ≡ record { states = []; room = room } → here ≡ with_state 0 empty
    → next ≡ record { states = []; room = room } → HasRun g text 0 room here next old old
run_started g text room old empty here next none put other = record {
  running = running_start g room old empty here next none put other;
  counts = counts_none g text old;
}
