-- The answers to questions about all paths.
use Rattle.std.specs.Prelude.{◌≡◌, ℕ, ◌≤◌, Bool, true, List, length}
use Rattle.aa_glob_nfa.specs.Graphs.{AreBytes}
use Rattle.aa_glob_paths.specs.AllPaths.{TellAllPaths}
use Rattle.aa_glob_paths.specs.TooMany.{AreMoreTextsThan}
use Rattle.aa_glob_paths.specs.declared.outcome.Outcome.{Outcome}
use Rattle.aa_profile_data.specs.declared.profile.Rule.{Rule}
use Rattle.aa_explain_paths.specs.Claims.{breaking_letters, breaks_for, first_owner}
use Rattle.aa_explain_paths.specs.Meant.{is_meant, unasked_patterns}
use Rattle.aa_explain_paths.specs.Relevant.{relevant_rules}
use Rattle.aa_explain_paths.specs.Telling.{all_classes, telling_patterns}
use Rattle.aa_explain_paths.specs.declared.question.Breaking.{Breaking as CodeBreaking}
use Rattle.aa_explain_paths.specs.declared.question.Claim.{Claim}
use Rattle.aa_explain_paths.specs.declared.question.PathAnswer.{PathAnswer}
use Rattle.aa_explain_paths.specs.declared.question.PathAnswer.TheVariants.{Fails, Holds, TooMany}
use Rattle.aa_explain_paths.specs.declared.question.Whose.{Whose}

-- a question: the claim, the letters, whose files are meant, and the patterns
pub record Asked : Type 0 where
  pub claim : Claim
  pub letters : ℕ
  pub whose : Whose
  pub patterns : List (List ℕ)

-- by some rules, a path that is meant breaks the claim
pub record IsBreaking (rules : List Rule) (asked : Asked) (path : List ℕ) : Type 0 where
  pub bytes : AreBytes path
  pub meant : is_meant asked.patterns path ≡ true
  pub breaks : breaks_for asked.claim rules asked.letters asked.whose path ≡ true

-- The claim holds of each path that is meant: none breaks it.
abbrev pub HoldsOfAll : List Rule → Asked → Type 0
HoldsOfAll rules asked = (path : List ℕ) → IsBreaking rules asked path → ⊥

-- this path breaks the claim, and none that does is shorter
pub record IsShortestBreaking (rules : List Rule) (asked : Asked) (path : List ℕ) : Type 0 where
  pub breaking : IsBreaking rules asked path
  pub shortest : (other : List ℕ) → IsBreaking rules asked other → length path ≤ length other

-- a path that breaks the claim, the first of the owners whose file does, and the letters by which it does
pub record Breaking : Type 0 where
  pub path : List ℕ
  pub owned : Bool
  pub letters : ℕ

abbrev pub seen_breaking : CodeBreaking → Breaking
seen_breaking breaking = record { path = breaking.path.items; owned = breaking.owned; letters = breaking.letters.0 }

abbrev pub breaking_by : List Rule → Asked → List ℕ → Breaking
breaking_by rules asked path =
    let owned = first_owner asked.claim rules asked.letters asked.whose path in
    record { path = path; owned = owned; letters = breaking_letters asked.claim rules asked.letters path owned }

-- There are so many kinds of paths that a pattern of the question matches, and that the kernel may ask about: paths are of one kind where the same
-- patterns match them, of some rules and of the question.
pub record AreKinds (rules : List Rule) (asked : Asked) (count : ℕ) : Type 0 where
  pub outcomes : List Outcome
  pub told : TellAllPaths (telling_patterns rules asked.patterns unasked_patterns) (all_classes rules asked.patterns unasked_patterns) outcomes
  pub counted : count ≡ length outcomes

-- The answer by some rules is right, where the patterns of `telling` tell paths apart: rules that allow the same of each path that is meant. The
-- answer is that there are too many paths only where these patterns read more texts than the limit differently.
abbrev pub IsAnswerBy : List Rule → List Rule → Asked → ℕ → PathAnswer → Type 0
IsAnswerBy telling rules asked limit (Holds count) = HoldsOfAll rules asked × AreKinds telling asked count
IsAnswerBy telling rules asked limit (Fails breaking) =
    IsShortestBreaking rules asked breaking.path.items × (seen_breaking breaking ≡ breaking_by rules asked breaking.path.items)
IsAnswerBy telling rules asked limit TooMany = AreMoreTextsThan (telling_patterns telling asked.patterns unasked_patterns) limit

-- the answer by some rules is right, where the patterns of those that can decide tell paths apart
abbrev pub IsAnswer : List Rule → Asked → ℕ → PathAnswer → Type 0
IsAnswer rules asked limit answer = IsAnswerBy (relevant_rules asked.letters asked.whose rules) rules asked limit answer
