-- What a part has, one by one, and how each of that is printed.
use Rattle.std.specs.Prelude.{ℕ, ◌+◌, ◌==◌, if◌then◌else◌, List, [], ◌∷◌, ◌++◌, codes, Option, None, Some, option_and_then, slice_get}
use Rattle.aa_decide_rules.specs.Verdict.{covers}
use Rattle.aa_explain_diff.specs.Features.{Feature, OfAttachment, OfAudit, OfFlag, OfHat, OfMode, OfRule}
use Rattle.aa_profile_data.specs.Request.{Request}
use Rattle.aa_profile_data.specs.declared.profile.Mode.{Mode}
use Rattle.aa_profile_data.specs.declared.profile.Rule.{Rule}
use Rattle.aa_set_answers.specs.RuleLines.{rule_text}
use Rattle.aa_set_answers.specs.Show.{attachment_text}
use Rattle.aa_set_answers.specs.States.{mode_word}
use Rattle.aa_text_files.specs.declared.text_error.Place.{Place}

-- the word of a mode, or of no mode: a profile in none is disabled
abbrev pub state_text : Option Mode → List ℕ
state_text None = codes "disabled"
state_text (Some mode) = mode_word mode

-- a feature as it is printed: by the word of a mode or a flag, by `disabled`, or as `show` prints it
abbrev pub feature_text : Feature → List ℕ
feature_text (OfMode mode) = state_text mode
feature_text OfHat = codes "hat"
feature_text OfAudit = codes "audit"
feature_text (OfFlag flag) = flag
feature_text (OfAttachment pattern) = attachment_text pattern
feature_text (OfRule rule number) = rule_text rule

-- where the rule of a number is written, if that is known
abbrev pub place_at : List (Option Place) → ℕ → Option Place
place_at places number = option_and_then (λ place. place) (slice_get places number)

-- a rule by its number, if it covers some of the request's needs
abbrev pub covering_feature : Request → ℕ → Rule → List Feature
covering_feature request number rule = if covers request rule == 0 then [] else OfRule rule number ∷ []

-- those of some rules that cover some of the request's needs, where the first has this number
abbrev pub covering_from : Request → ℕ → List Rule → List Feature
covering_from request number [] = []
covering_from request number (rule ∷ rules) = covering_feature request number rule ++ covering_from request (number + 1) rules
