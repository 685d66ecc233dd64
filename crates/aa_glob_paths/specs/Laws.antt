-- Paths that stand for all.
use Rattle.std.specs.Prelude.{◌≡◌, ℕ, ◌≤◌, true, List, length, map, Contains}
use Rattle.aa_glob_nfa.specs.Graphs.{AreBytes}
use Rattle.aa_glob_pairs.specs.Graphs.{class_at}
use Rattle.aa_glob_paths.specs.Settled.{passed_over_class}
use Rattle.aa_glob_paths.specs.Wanted.{wanted_class}
use Rattle.aa_glob_syntax.specs.Matching.{matches}
use Rattle.aa_glob_syntax.specs.Patterns.{AreMatching, IsPatternAt}
use Rattle.aa_glob_syntax.specs.Reading.{items_of}
use Rattle.aa_glob_paths.specs.AllPaths.{TellAllPaths}
use Rattle.aa_glob_paths.specs.declared.outcome.Outcome.{Outcome}

-- the same patterns match both paths
abbrev pub AreMatchedAlike : List (List ℕ) → List ℕ → List ℕ → Type 0
AreMatchedAlike patterns path other =
    (place : ℕ) (pattern : List ℕ) → IsPatternAt patterns place pattern → matches (items_of pattern) path ≡ matches (items_of pattern) other

-- a pattern of the class matches the path
abbrev pub IsMatchedByClass : ℕ → List (List ℕ) → List ℕ → List ℕ → Type 0
IsMatchedByClass class patterns classes path =
    (place : ℕ) × (pattern : List ℕ) × IsPatternAt patterns place pattern × (class_at classes place ≡ class) × (matches (items_of pattern) path ≡ true)

-- a pattern that is wanted matches the path, and none that is passed over
pub record IsToldOf (patterns : List (List ℕ)) (classes path : List ℕ) : Type 0 where
  pub wanted : IsMatchedByClass wanted_class patterns classes path
  pub not_passed_over : IsMatchedByClass passed_over_class patterns classes path → ⊥

-- another path stands for a path: the same patterns match both, and it is no longer
pub record StandsFor (patterns : List (List ℕ)) (path other : List ℕ) : Type 0 where
  pub bytes : AreBytes other
  pub alike : AreMatchedAlike patterns path other
  pub no_longer : length other ≤ length path

-- some paths stand for all that a wanted pattern matches, and none that is passed over
abbrev pub StandForAllPaths : List (List ℕ) → List ℕ → List (List ℕ) → Type 0
StandForAllPaths patterns classes paths =
    (path : List ℕ) → AreBytes path → IsToldOf patterns classes path → (other : List ℕ) × Contains paths other × StandsFor patterns path other

-- the paths of outcomes
abbrev pub paths_of : List Outcome → List (List ℕ)
paths_of outcomes = map (λ o. o.path.items) outcomes

-- the paths of outcomes that cover all paths stand for all
abbrev pub OutcomesStandForAll : Type 0
OutcomesStandForAll =
    (patterns : List (List ℕ)) (classes : List ℕ) (outcomes : List Outcome)
    → TellAllPaths patterns classes outcomes → StandForAllPaths patterns classes (paths_of outcomes)

-- no path that has exactly the places of an outcome is shorter than its own
abbrev pub OutcomesAreShortest : Type 0
OutcomesAreShortest =
    (patterns : List (List ℕ)) (classes : List ℕ) (outcomes : List Outcome) (o : Outcome)
    → TellAllPaths patterns classes outcomes → Contains outcomes o
    → (path : List ℕ) → AreBytes path → AreMatching patterns path o.places.items → length o.path.items ≤ length path
