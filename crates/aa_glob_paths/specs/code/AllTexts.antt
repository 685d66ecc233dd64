-- What outcomes say of all texts that lead through a graph: which patterns they end.
use Rattle.std.specs.Prelude.{◌≢◌, ℕ, ◌<◌, ◌≤◌, Bool, not, ◌==◌, ◌&&◌, List, length, reverse, All, AllPairs, Contains}
use Rattle.std.specs.List.{list_any}
use Rattle.aa_glob_nfa.specs.Graphs.{AreBytes, Graph, IsFound}
use Rattle.aa_glob_pairs.specs.Graphs.{class_at}
use Rattle.aa_glob_paths.specs.Settled.{passed_over_class}
use Rattle.aa_glob_paths.specs.Wanted.{wanted_class}
use Rattle.aa_glob_paths.specs.Found.{FoundSet, IsFoundBehind, set_at}
use Rattle.aa_glob_paths.specs.SetLaws.{EndIn}
use Rattle.aa_glob_paths.specs.AllPaths.{AreTold, HasPlaces}
use Rattle.aa_glob_paths.specs.declared.outcome.Outcome.{Outcome}

-- one of the patterns is of the class
abbrev pub has_class : List ℕ → ℕ → List ℕ → Bool
has_class classes class places = list_any (λ p. class_at classes p == class) places

-- one of the patterns is wanted, and none is passed over, as a test
abbrev pub are_told : List ℕ → List ℕ → Bool
are_told classes places = has_class classes wanted_class places && not (has_class classes passed_over_class places)

-- the path leads to ends of exactly these patterns, which are listed in rising order, and of which one is wanted, and none passed over
pub record IsFoundBy (g : Graph) (classes : List ℕ) (o : Outcome) : Type 0 where
  pub bytes : AreBytes o.path.items
  pub found : IsFound g o.path.items o.places.items
  pub rise : AllPairs (λ p q. p < q) o.places.items
  pub told : AreTold classes o.places.items

-- an outcome was made of the set of a number before this one
abbrev pub IsOfEarlier : List FoundSet → ℕ → Outcome → Type 0
IsOfEarlier found number o = (n : ℕ) × (n < number) × IsFoundBehind found n (reverse o.path.items)

-- an outcome has the patterns of the set of a number, and its path is no longer than the text by which that was found
abbrev pub HasSetOf : Graph → List FoundSet → List Outcome → ℕ → Type 0
HasSetOf g found outcomes n =
    (o : Outcome) × Contains outcomes o × EndIn g (set_at found n) o.places.items
    × ((past : List ℕ) → IsFoundBehind found n past → length o.path.items ≤ length past)

-- outcomes are in the order of the lengths of their paths, and no places occur twice
pub record AreInOrder (outcomes : List Outcome) : Type 0 where
  pub by_length : AllPairs (λ one later. length one.path.items ≤ length later.path.items) outcomes
  pub apart : AllPairs (λ one later. one.places.items ≢ later.places.items) outcomes

-- the sets before a number have their outcomes, where a pattern that is wanted ends in them, and none that is passed over
pub record AreOutcomesBefore (g : Graph) (classes : List ℕ) (found : List FoundSet) (number : ℕ) (outcomes : List Outcome) : Type 0 where
  pub each : (n : ℕ) (places : List ℕ) → n < number → EndIn g (set_at found n) places → AreTold classes places → HasSetOf g found outcomes n
  pub only : All (IsFoundBy g classes) outcomes
  pub earlier : All (IsOfEarlier found number) outcomes
  pub order : AreInOrder outcomes

-- each text that leads to an end of a wanted pattern, and to none of one that is passed over, has the places of one of the outcomes, and each of
-- these has a text
pub record TellAllTexts (g : Graph) (classes : List ℕ) (outcomes : List Outcome) : Type 0 where
  pub each_text : (text places : List ℕ) → AreBytes text → IsFound g text places → AreTold classes places → HasPlaces outcomes text places
  pub each_outcome : All (IsFoundBy g classes) outcomes
  pub order : AreInOrder outcomes
