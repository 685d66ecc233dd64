-- The report on a change of policy (docs/aatry.md).
use Rattle.std.specs.Prelude.{ℕ, if◌then◌else◌, List, [], ◌∷◌, ◌++◌, codes, flat_map}
use Rattle.aa_explain_diff.specs.Features.{Feature}
use Rattle.aatry_changes.specs.Folded.{groups_of, own_features}
use Rattle.aatry_changes.specs.PartChanges.{OfChanged, OfGone, OfNew, PartChange, differ, part_changes}
use Rattle.aatry_policy.specs.FolderParts.{FolderParts}
use Rattle.aatry_policy.specs.Parts.{Part}
use Rattle.aatry_report.specs.Fields.{Text, Words, told}
use Rattle.aatry_report.specs.declared.form.Form.{Form}
use Rattle.aatry_report.specs.declared.form.Form.TheVariants.{Lines, Records}
use Rattle.aatry_shared.specs.Differing.{told_lines}
use Rattle.aatry_shared.specs.SharedLines.{shared_lines}
use Rattle.aatry_shared.specs.Sharing.{Group}
use Rattle.aatry_shared.specs.declared.side.Side.TheVariants.{New, Old}
use Rattle.aatry_uncertain.specs.LeftOutHeads.{LeftOutHead, has_name}

-- the heading of a part: a word, which is its kind, and its full name
abbrev pub headed : Form → List ℕ → List ℕ → List ℕ
headed form word name = told form word (Words word ∷ Words (codes ": ") ∷ Text (codes "name") name ∷ [])

-- The heading of a changed part, by the features that it has by itself: no line where it has none, since then each change that it shares names it.
abbrev pub changed_heading : Form → List ℕ → List Feature → List Feature → List ℕ
changed_heading Lines name less more = if differ less more then headed Lines (codes "changed") name else []
changed_heading Records name less more = headed Records (codes "changed") name

-- what only the old part has, and what only the new one has
abbrev pub below_text : Form → FolderParts → FolderParts → Part → Part → List Feature → List Feature → List ℕ
below_text form old new part other less more = told_lines form old part [] Old less ++ told_lines form new other [] New more

-- the report on a changed part, by what it has by itself
abbrev pub own_text : Form → FolderParts → FolderParts → Part → Part → List Feature → List Feature → List ℕ
own_text form old new part other less more = changed_heading form part.name less more ++ below_text form old new part other less more

-- the word for a part that the new folder lacks: it is unread where one of its files that are left out has the name of its profile, and else gone
abbrev pub gone_word : List LeftOutHead → List ℕ → List ℕ
gone_word heads name = if has_name heads name then codes "unread" else codes "gone"

-- the report on a part that the new folder lacks
abbrev pub gone_text : Form → List LeftOutHead → Part → List ℕ
gone_text form heads part = headed form (gone_word heads part.name) part.name

-- the report on what changes of a part: that it is gone, unread or new, or what isn't shared of it
abbrev pub told_change : Form → List LeftOutHead → FolderParts → FolderParts → List Group → PartChange → List ℕ
told_change form heads old new groups (OfGone part) = gone_text form heads part
told_change form heads old new groups (OfNew part) = headed form (codes "new") part.name
told_change form heads old new groups (OfChanged part other less more) =
    own_text form old new part other (own_features groups part Old less) (own_features groups other New more)

-- the report on what changes: what is shared first, and then what each part has by itself
abbrev pub told_changes : Form → List LeftOutHead → FolderParts → FolderParts → List Group → List PartChange → List ℕ
told_changes form heads old new groups changes =
    shared_lines form old.below new.below groups ++ flat_map (told_change form heads old new groups) changes

abbrev pub folded_lines : Form → List LeftOutHead → FolderParts → FolderParts → List PartChange → List ℕ
folded_lines form heads old new changes = told_changes form heads old new (groups_of changes) changes

-- the report on two folders, where files with these heads are left out of the new one
abbrev pub change_lines : Form → List LeftOutHead → FolderParts → FolderParts → List ℕ
change_lines form heads old new = folded_lines form heads old new (part_changes old new)
