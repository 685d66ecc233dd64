-- What is found of one question, and the report on folders by what is found.
use Rattle.std.specs.Prelude.{ℕ, Bool, ◌==◌, ◌&&◌, if◌then◌else◌, List, [], ◌∷◌, ◌++◌, Option, None, Some, length}
use Rattle.aa_decide_ready.specs.Entries.{Loaded}
use Rattle.aatry_changes.specs.PartChanges.{changed_count}
use Rattle.aatry_diff.specs.Comparing.{parts_text}
use Rattle.aatry_diff.specs.Differing.{Difference, difference_of, differs}
use Rattle.aatry_diff.specs.Folders.{BothFolders}
use Rattle.aatry_diff.specs.Sources.{told_requests}
use Rattle.aatry_report.specs.declared.form.Form.{Form}
use Rattle.aatry_requests.specs.Gathering.{Gathered}
use Rattle.aatry_requests.specs.Tallies.{Tally}
use Rattle.aatry_uncertain.specs.LeftOutHeads.{LeftOutHead}

-- the question with the answers of the policy sets, where they differ
abbrev pub difference_if : List Loaded → List Loaded → Tally → List Difference
difference_if old new tally = if differs old new tally then difference_of old new tally ∷ [] else []

-- the question with the answers, if there is one and they differ
abbrev pub difference_at : List Loaded → List Loaded → Option Tally → List Difference
difference_at old new None = []
difference_at old new (Some tally) = difference_if old new tally

-- the report on two folders by what is found of their policy sets, where files with these heads are left out of the new one
unfoldable pub compared_text : Form → Bool → List LeftOutHead → BothFolders → Option Gathered → List Difference → List ℕ
compared_text form stat heads folders requests found =
    parts_text form stat heads folders.old folders.new ++ told_requests form stat folders requests found

-- nothing differs between them
abbrev pub nothing_differs : BothFolders → List Difference → Bool
nothing_differs folders found = changed_count folders.old folders.new == 0 && length found == 0
