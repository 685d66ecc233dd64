-- Which rules can decide a claim on paths: all other rules cover none of the letters.
use Rattle.std.specs.Prelude.{ℕ, Bool, false, not, ◌&&◌, ◌||◌, ◌==◌, List}
use Rattle.std.specs.List.{filter, list_any}
use Rattle.aa_decide_rules.specs.Verdict.{covered_by_file}
use Rattle.aa_profile_data.specs.Access.{common}
use Rattle.aa_profile_data.specs.declared.profile.FileRule.{FileRule}
use Rattle.aa_profile_data.specs.declared.profile.Rule.{Rule}
use Rattle.aa_profile_data.specs.declared.profile.Rule.TheVariants.{Cap, File, Net, Other}
use Rattle.aa_explain_paths.specs.Claims.{owners}
use Rattle.aa_explain_paths.specs.declared.question.Whose.{Whose}

-- the task's user owns some of the files that are meant
abbrev pub has_owned : Whose → Bool
has_owned whose = list_any (λ owned. owned) (owners whose)

-- a rule covers one of some letters
abbrev pub covers_some : ℕ → FileRule → Bool
covers_some letters rule = not (common letters (covered_by_file rule) == 0)

-- a rule on files can decide: it covers one of the letters, and isn't the owner's alone where no file is the task's user's
abbrev pub is_relevant : ℕ → Whose → Rule → Bool
is_relevant letters whose (File rule) = covers_some letters rule && (not rule.owner || has_owned whose)
is_relevant letters whose (Cap rule) = false
is_relevant letters whose (Net rule) = false
is_relevant letters whose (Other rule) = false

-- those of some rules that can decide
abbrev pub relevant_rules : ℕ → Whose → List Rule → List Rule
relevant_rules letters whose rules = filter (is_relevant letters whose) rules
