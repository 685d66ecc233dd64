-- What outcomes say of all paths: which patterns match one of them together.
use Rattle.std.specs.Prelude.{◌≡◌, ◌↔◌, ℕ, ◌<◌, ◌≤◌, List, length, All, AllPairs, Contains}
use Rattle.aa_glob_nfa.specs.Graphs.{AreBytes}
use Rattle.aa_glob_pairs.specs.Graphs.{class_at}
use Rattle.aa_glob_paths.specs.Settled.{passed_over_class}
use Rattle.aa_glob_paths.specs.Wanted.{wanted_class}
use Rattle.aa_glob_syntax.specs.Patterns.{AreMatching}
use Rattle.aa_glob_paths.specs.declared.outcome.Outcome.{Outcome}

-- the same places, whatever their order
abbrev pub SamePlaces : List ℕ → List ℕ → Type 0
SamePlaces places others = (p : ℕ) → Contains places p ↔ Contains others p

-- one of the patterns is wanted
abbrev pub IsWanted : List ℕ → List ℕ → Type 0
IsWanted classes places = (p : ℕ) × Contains places p × (class_at classes p ≡ wanted_class)

-- one of the patterns is passed over
abbrev pub HasPassedOver : List ℕ → List ℕ → Type 0
HasPassedOver classes places = (p : ℕ) × Contains places p × (class_at classes p ≡ passed_over_class)

-- one of the patterns is wanted, and none is passed over
pub record AreTold (classes places : List ℕ) : Type 0 where
  pub wanted : IsWanted classes places
  pub none_passed_over : HasPassedOver classes places → ⊥

-- an outcome has these places, and its path is no longer than this one
abbrev pub HasPlaces : List Outcome → List ℕ → List ℕ → Type 0
HasPlaces outcomes path places = (o : Outcome) × Contains outcomes o × SamePlaces o.places.items places × (length o.path.items ≤ length path)

-- The path of an outcome is one, and its places, in rising order, are those of the patterns that match it. One of these is wanted, and none is
-- passed over.
pub record IsOutcome (patterns : List (List ℕ)) (classes : List ℕ) (o : Outcome) : Type 0 where
  pub bytes : AreBytes o.path.items
  pub matching : AreMatching patterns o.path.items o.places.items
  pub rise : AllPairs (λ p q. p < q) o.places.items
  pub told : AreTold classes o.places.items

-- for each path that a wanted pattern matches, and none that is passed over, one of the outcomes has its places, and its own path is no longer
abbrev pub EachPathHasPlaces : List (List ℕ) → List ℕ → List Outcome → Type 0
EachPathHasPlaces patterns classes outcomes =
    (path places : List ℕ) → AreBytes path → AreMatching patterns path places → AreTold classes places → HasPlaces outcomes path places

-- These outcomes say of all paths of bytes which patterns match them, as far as a wanted pattern matches, and none that is passed over: each such
-- path has the places of one of them, and each of them has such a path. No two have the same places, so no shorter path has those of one of them.
-- They are in the order of the lengths of their paths.
pub record TellAllPaths (patterns : List (List ℕ)) (classes : List ℕ) (outcomes : List Outcome) : Type 0 where
  pub each_path : EachPathHasPlaces patterns classes outcomes
  pub each_outcome : All (IsOutcome patterns classes) outcomes
  pub by_length : AllPairs (λ one later. length one.path.items ≤ length later.path.items) outcomes
  pub apart : AllPairs (λ one later. SamePlaces one.places.items later.places.items → ⊥) outcomes
