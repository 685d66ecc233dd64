-- The rules that decide an answer: those that apply to a request, what each of them does, and of those that don't apply the nearest ones.
use Rattle.std.specs.Prelude.{ℕ, ◌+◌, Bool, false, not, ◌&&◌, ◌==◌, if◌then◌else◌, List, [], ◌∷◌}
use Rattle.aa_glob_syntax.specs.Matching.{matches}
use Rattle.aa_glob_syntax.specs.Reading.{items_of}
use Rattle.aa_profile_data.specs.Request.{Request, ForFile}
use Rattle.aa_profile_data.specs.declared.profile.Rule.{Rule}
use Rattle.aa_profile_data.specs.declared.profile.Rule.TheVariants.{File}
use Rattle.aa_decide_rules.specs.Verdict.{applies, covers, denies, is_audited}
use Rattle.aa_explain_rules.specs.declared.told.ToldRule.{ToldRule}

-- the report on a rule at an index that applies to a request; the flag audits each rule of the profile
abbrev pub told_rule : Bool → Request → ℕ → Rule → ToldRule
told_rule flag request place rule = record {
  place = place;
  denies = denies rule;
  covered = record { 0 = covers request rule };
  audited = is_audited flag rule;
}

-- the reports on those of some rules that apply, in their order, where the first rule has this index
abbrev pub told_from : Bool → Request → ℕ → List Rule → List ToldRule
told_from flag request first [] = []
told_from flag request first (rule ∷ rules) =
    if applies request rule
    then told_rule flag request first rule ∷ told_from flag request (first + 1) rules
    else told_from flag request (first + 1) rules

-- the reports on the rules that apply to a request
abbrev pub told : Bool → Request → List Rule → List ToldRule
told flag request rules = told_from flag request 0 rules

-- an allow rule on files whose pattern matches the requested path
abbrev pub lets_at : Request → Rule → Bool
lets_at (ForFile letters owned path) (File rule) = not rule.deny && matches (items_of rule.pattern) path
lets_at _ _ = false

-- A rule is near: it allows something at the path, but none of the request's needs. Its letters are others, or it is the owner's alone.
abbrev pub is_near : Request → Rule → Bool
is_near request rule = lets_at request rule && covers request rule == 0

-- the indexes of those of some rules that pass a test, in their order, where the first rule has this index
abbrev pub places_where : (Rule → Bool) → ℕ → List Rule → List ℕ
places_where test first [] = []
places_where test first (rule ∷ rules) = if test rule then first ∷ places_where test (first + 1) rules else places_where test (first + 1) rules

-- the indexes of the rules that are near a request
abbrev pub near : Request → List Rule → List ℕ
near request rules = places_where (is_near request) 0 rules
