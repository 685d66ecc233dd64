-- Properties of rules whose patterns were read: when two conflict, and when no two of some do.
use Rattle.std.specs.Prelude.{◌≡◌, ℕ, ◌<◌, List, Ok, Some, slice_get}
use Rattle.aa_glob_syntax.specs.Reading.{items_of, reading}
use Rattle.aa_profile_data.specs.Conflicts.{Conflict}
use Rattle.aa_profile_data.specs.declared.profile.Rule.{Rule}
use Rattle.aa_profile_data.specs.declared.profile.Rule.TheVariants.{Cap, File, Net, Other}

-- the pattern of a rule on files reads as a pattern
abbrev pub HasReadPattern : Rule → Type 0
HasReadPattern (File rule) = reading rule.pattern ≡ Ok (items_of rule.pattern)
HasReadPattern (Cap rule) = Unit
HasReadPattern (Net rule) = Unit
HasReadPattern (Other rule) = Unit

-- no rule among some conflicts with an earlier one
abbrev pub NoneConflict : List Rule → Type 0
NoneConflict rules =
    (first second : ℕ) (one other : Rule)
    → first < second → slice_get rules first ≡ Some one → slice_get rules second ≡ Some other → Conflict other one → ⊥
