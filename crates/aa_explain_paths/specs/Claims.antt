-- Claims on paths, and which paths break them: by the verdicts on files of these paths.
use Rattle.std.specs.Prelude.{ℕ, Bool, false, true, not, ◌&&◌, ◌==◌, if◌then◌else◌, List, [], ◌∷◌, fold}
use Rattle.std.specs.List.{list_any}
use Rattle.aa_decide_rules.specs.declared.verdict.Answer.{Answer}
use Rattle.aa_decide_rules.specs.declared.verdict.Answer.TheVariants.{Allow, Complain, Deny, Refuse}
use Rattle.aa_decide_rules.specs.Verdict.{verdict}
use Rattle.aa_decide_rules.specs.declared.judgement.Mediation.TheVariants.{Enforcing}
use Rattle.aa_profile_data.specs.Access.{APPEND, EXEC, LINK, LOCK, MAP, READ, WRITE, common, union, without}
use Rattle.aa_profile_data.specs.Request.{ForFile}
use Rattle.aa_profile_data.specs.declared.profile.Rule.{Rule}
use Rattle.aa_explain_paths.specs.declared.question.Claim.{Claim}
use Rattle.aa_explain_paths.specs.declared.question.Claim.TheVariants.{Always, Never}
use Rattle.aa_explain_paths.specs.declared.question.Whose.{Whose}
use Rattle.aa_explain_paths.specs.declared.question.Whose.TheVariants.{Any, Other, Owner}

-- each letter by itself
abbrev pub single_letters : List ℕ
single_letters = READ ∷ WRITE ∷ APPEND ∷ LINK ∷ LOCK ∷ MAP ∷ EXEC ∷ []

abbrev pub is_allow : Answer → Bool
is_allow Allow = true
is_allow Deny = false
is_allow Refuse = false
is_allow Complain = false

-- Rules allow all these letters of a file: the verdict in enforce mode, which no flag of a profile changes, is to allow them.
abbrev pub are_let : List Rule → ℕ → Bool → List ℕ → Bool
are_let rules letters owned path = is_allow (verdict Enforcing false rules (ForFile letters owned path)).answer

-- a letter is among some, and rules allow it, asked by itself
abbrev pub is_let : List Rule → ℕ → Bool → List ℕ → ℕ → Bool
is_let rules letters owned path letter = not (common letters letter == 0) && are_let rules letter owned path

-- rules allow one of these letters of a file
abbrev pub some_is_let : List Rule → ℕ → Bool → List ℕ → Bool
some_is_let rules letters owned path = list_any (is_let rules letters owned path) single_letters

-- A path breaks the claim: `never`, and one of the letters is allowed; `always`, and not all of them are.
abbrev pub breaks : Claim → List Rule → ℕ → List ℕ → Bool → Bool
breaks Never rules letters path owned = some_is_let rules letters owned path
breaks Always rules letters path owned = not (are_let rules letters owned path)

-- whether the task's user owns a file, of those that are meant
abbrev pub owners : Whose → List Bool
owners Owner = true ∷ []
owners Other = false ∷ []
owners Any = false ∷ true ∷ []

-- the file of a path breaks the claim, owned by one of the owners that are meant
abbrev pub breaks_for : Claim → List Rule → ℕ → Whose → List ℕ → Bool
breaks_for claim rules letters whose path = list_any (breaks claim rules letters path) (owners whose)

-- the first of these owners whose file breaks the claim
abbrev pub first_owner : Claim → List Rule → ℕ → Whose → List ℕ → Bool
first_owner claim rules letters Owner path = true
first_owner claim rules letters Other path = false
first_owner claim rules letters Any path = not (breaks claim rules letters path false)

-- a set with one letter more, if that is among some, and rules allow it
abbrev pub with_let : List Rule → ℕ → Bool → List ℕ → ℕ → ℕ → ℕ
with_let rules letters owned path set letter = if is_let rules letters owned path letter then union set letter else set

-- those of some letters of a file that rules allow
abbrev pub let_letters : List Rule → ℕ → Bool → List ℕ → ℕ
let_letters rules letters owned path = fold (with_let rules letters owned path) 0 single_letters

-- the letters by which a path breaks the claim: those that are allowed, where none is to be; or else those that aren't
abbrev pub breaking_letters : Claim → List Rule → ℕ → List ℕ → Bool → ℕ
breaking_letters Never rules letters path owned = let_letters rules letters owned path
breaking_letters Always rules letters path owned = without letters (let_letters rules letters owned path)
