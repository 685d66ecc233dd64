-- How the start of programs depends on their paths.
use Rattle.std.specs.Prelude.{◌≡◌, ℕ, ◌≤◌, Bool, true, List, [], ◌∷◌, Contains, Option, Some, length}
use Rattle.aa_decide.specs.Exec.{Asker, Started, exec_answer}
use Rattle.aa_decide.specs.ExecLaws.{HaveDistinctNames}
use Rattle.aa_decide.specs.SeenExec.{seen_to}
use Rattle.aa_decide_ready.specs.Entries.{Loaded}
use Rattle.aa_decide_ready.specs.Slots.{filled}
use Rattle.aa_explain_paths.specs.Laws.{HavePatternsAmong}
use Rattle.aa_explain_paths.specs.Meant.{is_matched}
use Rattle.aa_glob_nfa.specs.Graphs.{AreBytes}
use Rattle.aa_glob_paths.specs.Laws.{AreMatchedAlike, IsToldOf, StandForAllPaths, StandsFor}
use Rattle.aa_glob_syntax.specs.Patterns.{IsPatternAt}
use Rattle.aa_explain_reach.specs.Patterns.{attaching_patterns, every_pattern, own_patterns, start_rules, wanted_patterns}
use Rattle.aa_explain_reach.specs.Places.{is_somewhere}
use Rattle.aa_explain_reach.specs.Starts.{AreStartsOf, LeadsTo, place_to_go}
use Rattle.aa_explain_reach.specs.declared.start.Start.{Start}

-- each of some patterns is among others
abbrev pub AreAmong : List (List ℕ) → List (List ℕ) → Type 0
AreAmong own patterns = (pattern : List ℕ) → Contains own pattern → (place : ℕ) × IsPatternAt patterns place pattern

-- All patterns that the start of programs by who asks depends on are among some: those of its rules that speak of it,
-- where its rules are asked; of the attachments of the profiles in force; and of those of its own children, where it
-- is a profile.
pub record HaveStartPatterns (entries : List Loaded) (asker : Option Asker) (patterns : List (List ℕ)) : Type 0 where
  pub rules : HavePatternsAmong (start_rules asker) patterns
  pub attachments : AreAmong (attaching_patterns entries) patterns
  pub children : AreAmong (own_patterns asker) patterns

-- the start of a program is answered the same by both paths, whoever owns the file
abbrev pub AreStartedAlike : List Loaded → Option Asker → List ℕ → List ℕ → Type 0
AreStartedAlike entries asker path other = (owned : Bool) → exec_answer entries asker owned path ≡ exec_answer entries asker owned other

-- the start of a program depends on its path by which of these match it alone
abbrev pub StartsAreAlike : Type 0
StartsAreAlike =
    (entries : List Loaded) (asker : Option Asker) (patterns : List (List ℕ)) (path other : List ℕ)
    → HaveStartPatterns entries asker patterns → AreMatchedAlike patterns path other → AreStartedAlike entries asker path other

-- Of paths that stand for all, one has the answers of any path that a wanted pattern matches, and none that is passed
-- over: whatever is loaded and whoever asks, if the patterns that its starts depend on are among them.
abbrev pub StartsOfAllPaths : Type 0
StartsOfAllPaths =
    (patterns : List (List ℕ)) (classes : List ℕ) (paths : List (List ℕ)) → StandForAllPaths patterns classes paths
    → (path : List ℕ) → AreBytes path → IsToldOf patterns classes path
    → (other : List ℕ) × Contains paths other × StandsFor patterns path other
    × ((entries : List Loaded) (asker : Option Asker) → HaveStartPatterns entries asker patterns → AreStartedAlike entries asker path other)

-- a wanted pattern matches each absolute path whose program is started
abbrev pub StartsAreWanted : Type 0
StartsAreWanted =
    (entries : List Loaded) (asker : Option Asker) (owned : Bool) (path : List ℕ)
    → is_somewhere (place_to_go entries asker owned path) ≡ true → is_matched (every_pattern ∷ []) path ≡ true → is_matched (wanted_patterns asker) path ≡ true

-- Where no two profiles have one name, no shorter path leads where a start does.
abbrev pub StartsAreShortest : Type 0
StartsAreShortest =
    (slots : List (Option Loaded)) (asker : Option Asker) (starts : List Start) → HaveDistinctNames (filled slots) → AreStartsOf slots asker starts
    → (start : Start) → Contains starts start → (to : Started) → seen_to slots start.to ≡ Some to
    → (path : List ℕ) (owned : Bool) → LeadsTo (filled slots) asker owned path to → length start.path.items ≤ length path
