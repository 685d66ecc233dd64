-- What an automaton is to its caller: the patterns of which it was built, in their order. Contracts see which patterns these are by `IsAutomatonOf`;
-- how many states they have, and so how many visits a path takes at most, is said of the patterns by `HasStates`.
use Rattle.std.specs.Prelude.{◌≡◌, ◌↔◌, ℕ, ◌<◌, ◌≤◌, List, [], length, Ok, Option, None, Some}
use Rattle.std.specs.List.{All}
use Rattle.aa_glob.specs.Drawn.{IsDrawn, trail_at}
use Rattle.aa_glob_syntax.specs.Reading.{items_of, reading}
use Rattle.aa_glob_nfa.specs.Graphs.{EndsAt, Graph}
use Rattle.aa_glob_pattern.specs.Beginnings.{AreBeginnings}
use Rattle.aa_glob_pattern.specs.Trails.{Trail, trail_of}
use Rattle.aa_glob_syntax.specs.Patterns.{IsPatternAt}

-- each text reads as a pattern
abbrev pub AreRead : List (List ℕ) → Type 0
AreRead patterns = All (λ text. reading text ≡ Ok (items_of text)) patterns

-- the ends of a pattern are the states that have its whole trail
abbrev pub EndWhole : Graph → List Trail → List (List ℕ) → Type 0
EndWhole g trails patterns =
    (state place : ℕ)
    → (EndsAt g state place
    ↔ ((pattern : List ℕ) × IsPatternAt patterns place pattern × (state < length trails) × (trail_at trails state ≡ trail_of pattern)))

-- A graph is drawn of the different beginnings of these patterns, each of which ends where its whole trail does.
pub record IsGraphOf (g : Graph) (patterns : List (List ℕ)) : Type 0 where
  pub trails : List Trail
  pub drawn : IsDrawn g trails
  pub beginnings : AreBeginnings patterns trails
  pub ends : EndWhole g trails patterns
  pub read : AreRead patterns

-- an automaton of these patterns; of none there is no graph
abbrev pub IsAutomatonOf : Option Graph → List (List ℕ) → Type 0
IsAutomatonOf None patterns = patterns ≡ []
IsAutomatonOf (Some g) patterns = IsGraphOf g patterns

-- there is a class for each of the automaton's patterns
abbrev pub AreClassesOf : Option Graph → List ℕ → Type 0
AreClassesOf automaton classes = (patterns : List (List ℕ)) × IsAutomatonOf automaton patterns × (length patterns ≤ length classes)
