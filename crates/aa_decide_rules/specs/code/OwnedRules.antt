-- What rules say of the start of a program whose patterns match its path.
use Rattle.std.specs.Prelude.{ℕ, Bool, not, ◌||◌, if◌then◌else◌, List, [], ◌∷◌, Option, None, Some, slice_get}
use Rattle.aa_profile_data.specs.declared.profile.Rule.{Rule}
use Rattle.aa_profile_data.specs.declared.profile.Rule.TheVariants.{Cap, File, Net, Other}
use Rattle.aa_decide_rules.specs.ExecRules.{ExecRule, said_by}

-- what a rule says whose pattern matches
abbrev pub said_if_owned : Bool → Bool → Rule → Option ExecRule
said_if_owned flag owned (File rule) = if not rule.owner || owned then said_by flag rule else None
said_if_owned flag owned (Cap rule) = None
said_if_owned flag owned (Net rule) = None
said_if_owned flag owned (Other rule) = None

-- what such rules say, in their order
abbrev pub owned_rules : Bool → Bool → List Rule → List ExecRule
owned_rules flag owned [] = []
owned_rules flag owned (rule ∷ rules) = elim (said_if_owned flag owned rule) [
  | None ↦ owned_rules flag owned rules
  | Some said ↦ said ∷ owned_rules flag owned rules
]

-- what the rule at an index says
abbrev pub said_at : Bool → Bool → List Rule → ℕ → Option ExecRule
said_at flag owned rules place = elim (slice_get rules place) [ None ↦ None | Some rule ↦ said_if_owned flag owned rule ]

-- what the rules at some indexes say, in the order of the indexes
abbrev pub said_by_picked : Bool → Bool → List Rule → List ℕ → List ExecRule
said_by_picked flag owned rules [] = []
said_by_picked flag owned rules (place ∷ places) = elim (said_at flag owned rules place) [
  | None ↦ said_by_picked flag owned rules places
  | Some said ↦ said ∷ said_by_picked flag owned rules places
]
