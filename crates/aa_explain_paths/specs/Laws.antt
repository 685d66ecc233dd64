-- Verdicts over all paths.
use Rattle.std.specs.Prelude.{◌≡◌, ℕ, Bool, List, Contains}
use Rattle.aa_decide_rules.specs.Verdict.{verdict}
use Rattle.aa_decide_rules.specs.declared.judgement.Mediation.{Mediation}
use Rattle.aa_glob_nfa.specs.Graphs.{AreBytes}
use Rattle.aa_glob_paths.specs.Laws.{AreMatchedAlike, IsToldOf, StandForAllPaths, StandsFor}
use Rattle.aa_glob_syntax.specs.Patterns.{IsPatternAt}
use Rattle.aa_profile_data.specs.Access.{common}
use Rattle.aa_profile_data.specs.Request.{ForFile}
use Rattle.aa_profile_data.specs.declared.profile.FileRule.{FileRule}
use Rattle.aa_profile_data.specs.declared.profile.Rule.{Rule}
use Rattle.aa_profile_data.specs.declared.profile.Rule.TheVariants.{File}
use Rattle.aa_explain_paths.specs.Claims.{owners}
use Rattle.aa_explain_paths.specs.Relevant.{relevant_rules}
use Rattle.aa_explain_paths.specs.declared.question.Whose.{Whose}

-- the pattern of each rule on files is among some
abbrev pub HavePatternsAmong : List Rule → List (List ℕ) → Type 0
HavePatternsAmong rules patterns = (rule : FileRule) → Contains rules (File rule) → (place : ℕ) × IsPatternAt patterns place rule.pattern

-- rules have the same verdict on both paths: whatever the letters, whoever owns the file, and whatever the mediation
abbrev pub AreAnsweredAlike : List Rule → List ℕ → List ℕ → Type 0
AreAnsweredAlike rules path other =
    (mediation : Mediation) (flag : Bool) (letters : ℕ) (owned : Bool)
    → verdict mediation flag rules (ForFile letters owned path) ≡ verdict mediation flag rules (ForFile letters owned other)

-- a verdict depends on the path by the patterns that match it alone
abbrev pub VerdictsAreAlike : Type 0
VerdictsAreAlike =
    (patterns : List (List ℕ)) (rules : List Rule) (path other : List ℕ)
    → HavePatternsAmong rules patterns → AreMatchedAlike patterns path other → AreAnsweredAlike rules path other

-- Of paths that stand for all, one has the verdicts of any path that a wanted pattern matches, and that no pattern passes over: by whatever rules
-- whose patterns are among them.
abbrev pub VerdictsOfAllPaths : Type 0
VerdictsOfAllPaths =
    (patterns : List (List ℕ)) (classes : List ℕ) (paths : List (List ℕ)) → StandForAllPaths patterns classes paths
    → (path : List ℕ) → AreBytes path → IsToldOf patterns classes path
    → (other : List ℕ) × Contains paths other × StandsFor patterns path other
    × ((rules : List Rule) → HavePatternsAmong rules patterns → AreAnsweredAlike rules path other)

-- No verdict depends on rules that can't decide the claim: whatever part of the letters is asked for, of a file that is meant.
abbrev pub RelevantRulesDecide : Type 0
RelevantRulesDecide =
    (letters : ℕ) (whose : Whose) (rules : List Rule) (own : ℕ) (owned : Bool) (path : List ℕ)
    → common letters own ≡ own → Contains (owners whose) owned → (mediation : Mediation) (flag : Bool)
    → verdict mediation flag (relevant_rules letters whose rules) (ForFile own owned path) ≡ verdict mediation flag rules (ForFile own owned path)
