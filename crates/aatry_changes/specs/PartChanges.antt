-- What a change of policy changes: profiles, children and hats that are new, gone or changed (docs/aatry.md).
use Rattle.std.specs.Prelude.{ℕ, ◌+◌, Bool, true, not, ◌&&◌, if◌then◌else◌, List, [], ◌∷◌, ◌++◌, filter, flat_map, length, map}
use Rattle.std.specs.Prelude.{Option, None, Some, is_none}
use Rattle.aa_bytes.specs.Texts.{is_empty}
use Rattle.aa_explain_diff.specs.Features.{Feature, features_of, lacking, seen_feature}
use Rattle.aatry_changes.specs.declared.part_changes.PartChange.{PartChange as CodeChange}
use Rattle.aatry_changes.specs.declared.part_changes.PartChange.TheVariants as code
use Rattle.aatry_policy.specs.FolderParts.{FolderParts}
use Rattle.aatry_policy.specs.Parts.{Part, part_of}
use Rattle.aatry_policy.specs.SeenProfiles.{seen_part}

-- what a part has and another lacks
abbrev pub alone : Part → Part → List Feature
alone part other = lacking (features_of other.section) (features_of part.section)

-- only one of two sides has something
abbrev pub differ : List Feature → List Feature → Bool
differ less more = not (is_empty less && is_empty more)

-- of two parts of a full name one has something that the other lacks
abbrev pub is_changed : Part → Part → Bool
is_changed part other = differ (alone part other) (alone other part)

-- a part of the old folder is gone or changed, by the one of its full name in the new one
abbrev pub is_gone_or_changed_by : Part → Option Part → Bool
is_gone_or_changed_by part None = true
is_gone_or_changed_by part (Some other) = is_changed part other

abbrev pub is_gone_or_changed : FolderParts → Part → Bool
is_gone_or_changed new part = is_gone_or_changed_by part (part_of new.parts part.name)

-- a part of the new folder is new: the old one has none of its full name
abbrev pub is_new : FolderParts → Part → Bool
is_new old part = is_none (part_of old.parts part.name)

-- how many parts are gone, changed or new
abbrev pub changed_count : FolderParts → FolderParts → ℕ
changed_count old new = length (filter (is_gone_or_changed new) old.parts) + length (filter (is_new old) new.parts)

-- a part that is gone; one that is new; or a part of the old folder, the one of its full name in the new one, what only the old one has, and what
-- only the new one has
pub data PartChange : Type 0 where
  OfGone : Part → PartChange
  OfNew : Part → PartChange
  OfChanged : (part other : Part) (less more : List Feature) → PartChange

-- what changes of a part, by what only one side has
abbrev pub changed_by : Part → Part → List Feature → List Feature → List PartChange
changed_by part other less more = if differ less more then OfChanged part other less more ∷ [] else []

abbrev pub changed : Part → Part → List PartChange
changed part other = changed_by part other (alone part other) (alone other part)

-- what changes of a part of the old folder, by the one of its full name in the new one
abbrev pub old_change_by : Part → Option Part → List PartChange
old_change_by part None = OfGone part ∷ []
old_change_by part (Some other) = changed part other

abbrev pub old_change : FolderParts → Part → List PartChange
old_change new part = old_change_by part (part_of new.parts part.name)

-- what changes of a part of the new folder, by the one of its full name in the old one: it is new, if it is
abbrev pub new_change_by : Part → Option Part → List PartChange
new_change_by part None = OfNew part ∷ []
new_change_by part (Some other) = []

abbrev pub new_change : FolderParts → Part → List PartChange
new_change old part = new_change_by part (part_of old.parts part.name)

-- what changes of two folders
abbrev pub part_changes : FolderParts → FolderParts → List PartChange
part_changes old new = flat_map (old_change new) old.parts ++ flat_map (new_change old) new.parts

-- what changes, of the code
abbrev pub seen_change : CodeChange → PartChange
seen_change (code.Gone part) = OfGone (seen_part part.now)
seen_change (code.New part) = OfNew (seen_part part.now)
seen_change (code.Changed part) = OfChanged (seen_part part.part.now) (seen_part part.other.now) (map seen_feature part.less.items) (map seen_feature part.more.items)

abbrev pub seen_changes : List CodeChange → List PartChange
seen_changes changes = map seen_change changes
