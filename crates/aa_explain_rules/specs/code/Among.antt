-- How the code goes over rules at some of their indexes.
use Rattle.std.specs.Prelude.{ℕ, Bool, false, if◌then◌else◌, List, [], ◌∷◌, Option, None, Some, slice_get}
use Rattle.std.specs.List.{filter, list_any}
use Rattle.aa_decide_rules.specs.Verdict.{applies}
use Rattle.aa_profile_data.specs.Request.{Request}
use Rattle.aa_profile_data.specs.declared.profile.Rule.{Rule}
use Rattle.aa_explain_rules.specs.Told.{told_rule}
use Rattle.aa_explain_rules.specs.declared.told.ToldRule.{ToldRule}

-- the rule at an index passes a test; false where there is no rule
abbrev pub passes_at : (Rule → Bool) → List Rule → ℕ → Bool
passes_at test rules place = elim (slice_get rules place) [ None ↦ false | Some rule ↦ test rule ]

-- those of some indexes whose rule passes a test
abbrev pub among : (Rule → Bool) → List Rule → List ℕ → List ℕ
among test rules places = filter (passes_at test rules) places

-- a rule at some of the indexes passes a test
abbrev pub some_among : (Rule → Bool) → List Rule → List ℕ → Bool
some_among test rules places = list_any (passes_at test rules) places

-- the report on the rule at an index, if there is one that applies to a request
abbrev pub told_at : Bool → Request → List Rule → ℕ → Option ToldRule
told_at flag request rules place = elim (slice_get rules place) [
  | None ↦ None
  | Some rule ↦ if applies request rule then Some (told_rule flag request place rule) else None
]

-- the reports on the rules at some indexes that apply to a request
abbrev pub told_among : Bool → Request → List Rule → List ℕ → List ToldRule
told_among flag request rules [] = []
told_among flag request rules (place ∷ places) = elim (told_at flag request rules place) [
  | None ↦ told_among flag request rules places
  | Some told ↦ told ∷ told_among flag request rules places
]
