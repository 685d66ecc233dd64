-- Which rules on files match a path.
use Rattle.std.specs.Prelude.{◌≡◌, ◌↔◌, ℕ, Bool, true, false, Contains, List, Some, slice_get}
use Rattle.aa_glob_syntax.specs.Matching.{matches}
use Rattle.aa_glob_syntax.specs.Reading.{items_of}
use Rattle.aa_profile_data.specs.declared.profile.Rule.{Rule}
use Rattle.aa_profile_data.specs.declared.profile.Rule.TheVariants.{Cap, File, Net, Other}

-- a rule is one on files, and its pattern matches a path
abbrev pub is_matching : List ℕ → Rule → Bool
is_matching path (File rule) = matches (items_of rule.pattern) path
is_matching path (Cap rule) = false
is_matching path (Net rule) = false
is_matching path (Other rule) = false

-- the rule at a place is on files, and its pattern matches a path
abbrev pub IsMatchingAt : List Rule → List ℕ → ℕ → Type 0
IsMatchingAt rules path place = (rule : Rule) × (slice_get rules place ≡ Some rule) × (is_matching path rule ≡ true)

-- these are the places of the rules on files whose pattern matches a path
abbrev pub AreMatchingRules : List Rule → List ℕ → List ℕ → Type 0
AreMatchingRules rules path places = (place : ℕ) → (Contains places place ↔ IsMatchingAt rules path place)
