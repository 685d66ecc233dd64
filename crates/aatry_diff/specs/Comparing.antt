-- The report on two folders of policy that are compared (docs/aatry.md).
use Rattle.std.specs.Prelude.{ℕ, Bool, ◌==◌, ◌&&◌, if◌then◌else◌, List, ◌++◌, Option}
use Rattle.aa_bytes.specs.Texts.{is_empty}
use Rattle.aatry_changes.specs.Changes.{change_lines}
use Rattle.aatry_changes.specs.PartChanges.{changed_count}
use Rattle.aatry_changes.specs.Stat.{stat_lines}
use Rattle.aatry_diff.specs.Sources.{differing_count, requests_text}
use Rattle.aatry_diff.specs.Folders.{BothFolders}
use Rattle.aatry_diff.specs.NewlyLeftOut.{newly_left_out, newly_lines}
use Rattle.aatry_policy.specs.Folders.{Folder, left_out_in, left_out_note, policy_in}
use Rattle.aatry_policy.specs.FolderParts.{FolderParts, by_parts}
use Rattle.aatry_report.specs.declared.form.Form.{Form}
use Rattle.aatry_requests.specs.Gathering.{Gathered}
use Rattle.aatry_uncertain.specs.LeftOutHeads.{LeftOutHead, heads_left_out}

-- both folders by their profiles, children and hats
abbrev pub both : Folder → Folder → BothFolders
both old new = record { old = by_parts old; new = by_parts new }

-- the report on their profiles, children and hats, where files with these heads are left out of the new one: how much of each differs if only counts
-- are reported, and else what differs
abbrev pub parts_text : Form → Bool → List LeftOutHead → FolderParts → FolderParts → List ℕ
parts_text form stat heads old new = if stat then stat_lines form heads old new else change_lines form heads old new

-- the report on two folders: the files that are left out, verbose or not, the newly left-out ones, the profiles, children and hats that are gone,
-- changed or new, and the requests
abbrev pub diff_text : Form → (verbose stat : Bool) → Folder → Folder → Option Gathered → List ℕ
diff_text form verbose stat old new requests =
    left_out_in form verbose old ++ left_out_in form verbose new ++ newly_lines form new (newly_left_out old new)
    ++ parts_text form stat (heads_left_out new) (by_parts old) (by_parts new)
    ++ requests_text form stat (both old new) (policy_in old) (policy_in new) requests

-- the notes on them: how many files of each are left out
abbrev pub diff_notes : Folder → Folder → List ℕ
diff_notes old new = left_out_note old ++ left_out_note new

-- nothing differs: no profile, child or hat, and no answer
abbrev pub are_alike : Folder → Folder → Option Gathered → Bool
are_alike old new requests = changed_count (by_parts old) (by_parts new) == 0 && differing_count (policy_in old) (policy_in new) requests == 0

-- The new folder can replace the old one: they are alike, and no file is newly left out, of which nothing is known here.
abbrev pub is_unchanged : Folder → Folder → Option Gathered → Bool
is_unchanged old new requests = is_empty (newly_left_out old new) && are_alike old new requests
