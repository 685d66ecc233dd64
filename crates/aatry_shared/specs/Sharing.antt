-- Changes that several profiles, children and hats have in common (docs/aatry.md).
use Rattle.std.specs.Prelude.{ℕ, Bool, true, false, ◌==◌, ◌&&◌, nat_lt, if◌then◌else◌, List, [], ◌∷◌, ◌++◌, filter, length, Option, None, option_map}
use Rattle.std.specs.List.{list_any}
use Rattle.std.specs.Str.{bytes_eq}
use Rattle.aa_bytes.specs.Texts.{is_empty}
use Rattle.aa_explain_diff.specs.Features.{Feature, OfRule}
use Rattle.aa_text_files.specs.declared.text_error.Place.{Place}
use Rattle.aatry_policy.specs.Parts.{Part}
use Rattle.aatry_shared.specs.PartFeatures.{feature_text, place_at}
use Rattle.aatry_shared.specs.declared.side.Side.{Side}
use Rattle.aatry_shared.specs.declared.side.Side.TheVariants.{New, Old}

-- A rule that only one side of a part has: which side that is, where the rule is written, and its text. What two parts have at one place is in a
-- file that both include.
pub record Change : Type 0 where
  pub side : Side
  pub place : Place
  pub text : List ℕ

abbrev pub same_side : Side → Side → Bool
same_side Old Old = true
same_side New New = true
same_side _ _ = false

-- only the same side has the same rule, with the same text and written at one place
abbrev pub same_change : Change → Change → Bool
same_change one other =
    same_side one.side other.side && (one.place.file == other.place.file) && (one.place.at == other.place.at) && bytes_eq one.text other.text

-- the change of a feature of a part on one side, if it is a rule whose place is known
abbrev pub change_at : Part → Side → Feature → Option Change
change_at part side (OfRule rule number) =
    option_map (λ (place : Place). record { side = side; place = place; text = feature_text (OfRule rule number) }) (place_at part.places number)
change_at part side feature = None

-- a part, by its full name, has a change
pub record Having : Type 0 where
  pub name : List ℕ
  pub change : Change

-- a change, and the full names of the parts that have it, in their order
pub record Group : Type 0 where
  pub change : Change
  pub names : List (List ℕ)

-- this is the last of some names
abbrev pub ends_in : List (List ℕ) → List ℕ → Bool
ends_in [] name = false
ends_in (first ∷ names) name = if is_empty names then bytes_eq first name else ends_in names name

-- One name more. What a part has twice, since it includes a file twice, it has once: its name is the last one then.
abbrev pub with_name : List (List ℕ) → List ℕ → List (List ℕ)
with_name names name = if ends_in names name then names else names ++ name ∷ []

-- One more part that has a change: added to those that have the same one, or else after all changes.
abbrev pub with_having : Having → List Group → List Group
with_having having [] = record { change = having.change; names = having.name ∷ [] } ∷ []
with_having having (group ∷ groups) =
    if same_change having.change group.change then record { change = group.change; names = with_name group.names having.name } ∷ groups
    else group ∷ with_having having groups

-- changes that parts have, one part after the other, after those that are gathered
abbrev pub gathered_behind : List Group → List Having → List Group
gathered_behind groups [] = groups
gathered_behind groups (having ∷ havings) = gathered_behind (with_having having groups) havings

-- The changes in the order in which they first come, each once, with the parts that have it.
abbrev pub gathered : List Having → List Group
gathered havings = gathered_behind [] havings

-- the names that have a change
abbrev pub names_of : Change → List Group → List (List ℕ)
names_of change [] = []
names_of change (group ∷ groups) = if same_change change group.change then group.names else names_of change groups

-- some have a change
abbrev pub has_change : List Group → Change → Bool
has_change groups change = list_any (λ group. same_change change group.change) groups

-- these are two or more
abbrev pub are_several : List (List ℕ) → Bool
are_several names = nat_lt 1 (length names)

-- A change is shared where two parts or more have it.
abbrev pub is_shared : List Group → Change → Bool
is_shared groups change = are_several (names_of change groups)

abbrev pub is_shared_group : Group → Bool
is_shared_group group = are_several group.names

-- the changes that are shared
abbrev pub shared : List Group → List Group
shared groups = filter is_shared_group groups
