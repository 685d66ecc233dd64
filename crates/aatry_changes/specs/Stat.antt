-- How much differs of profiles, children and hats, as it is reported (docs/aatry.md).
use Rattle.std.specs.Prelude.{ℕ, List, [], ◌∷◌, codes, flat_map, length}
use Rattle.aatry_changes.specs.Changes.{gone_text, headed}
use Rattle.aatry_changes.specs.PartChanges.{OfChanged, OfGone, OfNew, PartChange, part_changes}
use Rattle.aatry_policy.specs.FolderParts.{FolderParts}
use Rattle.aatry_report.specs.Fields.{Number, Text, Words, told}
use Rattle.aatry_report.specs.declared.form.Form.{Form}
use Rattle.aatry_uncertain.specs.LeftOutHeads.{LeftOutHead}

-- a changed part: how many lines only the old one has, and how many only the new one
abbrev pub stat_changed : Form → List ℕ → ℕ → ℕ → List ℕ
stat_changed form name less more =
    told form (codes "changed")
    (Words (codes "changed: ") ∷ Text (codes "name") name ∷ Words (codes " (-") ∷ Number (codes "less") less ∷ Words (codes " +")
    ∷ Number (codes "more") more ∷ Words (codes ")") ∷ [])

-- the report on a part that is gone, unread, new or changed
abbrev pub stat_change : Form → List LeftOutHead → PartChange → List ℕ
stat_change form heads (OfGone part) = gone_text form heads part
stat_change form heads (OfNew part) = headed form (codes "new") part.name
stat_change form heads (OfChanged part other less more) = stat_changed form part.name (length less) (length more)

-- the report on how much two folders differ, where files with these heads are left out of the new one
abbrev pub stat_lines : Form → List LeftOutHead → FolderParts → FolderParts → List ℕ
stat_lines form heads old new = flat_map (stat_change form heads) (part_changes old new)
