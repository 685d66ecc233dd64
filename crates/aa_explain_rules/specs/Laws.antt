-- Definitions for the laws on the rules that decide an answer.
use Rattle.std.specs.Prelude.{◌≡◌, ◌↔◌, ℕ, Bool, true, not, ◌&&◌, List, map, Some, slice_get}
use Rattle.std.specs.List.{Contains, filter}
use Rattle.aa_profile_data.specs.Request.{Request}
use Rattle.aa_profile_data.specs.declared.profile.Rule.{Rule}
use Rattle.aa_decide_rules.specs.Verdict.{allows, applies, denies}
use Rattle.aa_explain_rules.specs.declared.told.ToldRule.{ToldRule}

-- the indexes of reported rules
abbrev pub places_of : List ToldRule → List ℕ
places_of rules = map (λ rule. rule.place) rules

-- a rule that passes a test is at an index
abbrev pub StandsAt : (Rule → Bool) → List Rule → ℕ → Type 0
StandsAt test rules place = (rule : Rule) × (slice_get rules place ≡ Some rule) × (test rule ≡ true)

-- these are the indexes of the rules that pass a test, and no others
abbrev pub AreAllWith : (Rule → Bool) → List Rule → List ℕ → Type 0
AreAllWith test rules places = (place : ℕ) → (Contains places place ↔ StandsAt test rules place)

-- a rule is reported to deny, or to allow
abbrev pub is_told_to_deny : Request → Rule → Bool
is_told_to_deny request rule = applies request rule && denies rule

abbrev pub is_told_to_allow : Request → Rule → Bool
is_told_to_allow request rule = applies request rule && allows rule

-- rules without those that pass a test
abbrev pub but : (Rule → Bool) → List Rule → List Rule
but test rules = filter (λ rule. not (test rule)) rules
