-- The first of some paths that breaks the claim.
use Rattle.std.specs.Prelude.{ℕ, Bool, if◌then◌else◌, List, [], ◌∷◌, Option, None, Some}
use Rattle.aa_glob_paths.specs.declared.outcome.Outcome.{Outcome}
use Rattle.aa_profile_data.specs.declared.profile.Rule.{Rule}
use Rattle.aa_explain_paths.specs.Answers.{Asked, Breaking, breaking_by, seen_breaking}
use Rattle.aa_explain_paths.specs.Claims.{breaks_for}
use Rattle.aa_explain_paths.specs.declared.question.PathAnswer.{PathAnswer}
use Rattle.aa_explain_paths.specs.declared.question.PathAnswer.TheVariants.{Fails, Holds, TooMany}

-- a path breaks the claim
abbrev pub says_otherwise : List Rule → Asked → List ℕ → Bool
says_otherwise rules asked path = breaks_for asked.claim rules asked.letters asked.whose path

-- the path of the first outcome whose path passes a test
abbrev pub first_break : (List ℕ → Bool) → List Outcome → Option (List ℕ)
first_break test [] = None
first_break test (outcome ∷ outcomes) = if test outcome.path.items then Some outcome.path.items else first_break test outcomes

-- an answer, as definitions see it
pub data SeenAnswer : Type 0 where
  HoldsOf : (count : ℕ) → SeenAnswer
  FailsAt : (breaking : Breaking) → SeenAnswer
  AreTooMany : SeenAnswer

abbrev pub seen_answer : PathAnswer → SeenAnswer
seen_answer (Holds count) = HoldsOf count
seen_answer (Fails breaking) = FailsAt (seen_breaking breaking)
seen_answer TooMany = AreTooMany

-- the report on a path, by whose file of it breaks the claim and by which letters
abbrev pub breaking_with : List ℕ → Bool → ℕ → Breaking
breaking_with path owned letters = record { path = path; owned = owned; letters = letters }

-- the report on a path, if it breaks the claim
abbrev pub breaking_at : List Rule → Asked → List ℕ → Option Breaking
breaking_at rules asked path = if says_otherwise rules asked path then Some (breaking_by rules asked path) else None

-- the answer where so many paths stand for all, and this is the first that breaks the claim, if one does
abbrev pub answer_of : List Rule → Asked → ℕ → Option (List ℕ) → SeenAnswer
answer_of rules asked count None = HoldsOf count
answer_of rules asked count (Some path) = FailsAt (breaking_by rules asked path)
