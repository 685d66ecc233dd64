-- Which changes of profiles, children and hats are shared, and which each has by itself (docs/aatry.md).
use Rattle.std.specs.Prelude.{Bool, true, not, if◌then◌else◌, List, [], ◌∷◌, ◌++◌, flat_map, Option, None, Some}
use Rattle.aa_explain_diff.specs.Features.{Feature}
use Rattle.aatry_changes.specs.PartChanges.{OfChanged, OfGone, OfNew, PartChange}
use Rattle.aatry_policy.specs.Parts.{Part}
use Rattle.aatry_shared.specs.Sharing.{Change, Group, Having, change_at, gathered, is_shared}
use Rattle.aatry_shared.specs.declared.side.Side.{Side}
use Rattle.aatry_shared.specs.declared.side.Side.TheVariants.{New, Old}

-- a part has a change, if there is one
abbrev pub having_if : Part → Option Change → List Having
having_if part None = []
having_if part (Some change) = record { name = part.name; change = change } ∷ []

-- the change of a feature that only one side of a part has, if other parts may share it
abbrev pub having_of : Part → Side → Feature → List Having
having_of part side feature = having_if part (change_at part side feature)

-- the changes of features that only one side of a part has, as far as other parts may share them
abbrev pub havings_of : Part → Side → List Feature → List Having
havings_of part side features = flat_map (having_of part side) features

-- what changes of a part, as far as other parts may share it
abbrev pub havings_in : PartChange → List Having
havings_in (OfGone part) = []
havings_in (OfNew part) = []
havings_in (OfChanged part other less more) = havings_of part Old less ++ havings_of other New more

-- what changes of some parts, as far as other parts may share it
abbrev pub all_havings : List PartChange → List Having
all_havings changes = flat_map havings_in changes

-- the changes that parts have, each with those that have it
abbrev pub groups_of : List PartChange → List Group
groups_of changes = gathered (all_havings changes)

-- a change isn't shared, if there is one
abbrev pub is_own_change : List Group → Option Change → Bool
is_own_change groups None = true
is_own_change groups (Some change) = not (is_shared groups change)

-- a feature that only one side of a part has is reported below the part: it is no shared change
abbrev pub is_own : List Group → Part → Side → Feature → Bool
is_own groups part side feature = is_own_change groups (change_at part side feature)

abbrev pub own_if : List Group → Part → Side → Feature → List Feature
own_if groups part side feature = if is_own groups part side feature then feature ∷ [] else []

-- the features that are reported below the part
abbrev pub own_features : List Group → Part → Side → List Feature → List Feature
own_features groups part side features = flat_map (own_if groups part side) features
