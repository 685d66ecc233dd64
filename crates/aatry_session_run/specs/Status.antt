-- The status of a session over a folder of policy: what is loaded, and how the files that it has differ from those on disk.
use Rattle.std.specs.Prelude.{◌≡◌, ◌⊎◌, ℕ, List, ◌++◌, Option}
use Rattle.aa_set_answers.specs.List.{list_lines}
use Rattle.aa_text_files.specs.Files.{File}
use Rattle.aa_start.specs.Known.{Known}
use Rattle.aa_start.specs.declared.readable.UnreadFault.{UnreadFault}
use Rattle.aatry_folder.specs.PolicyFolders.{AreBelow}
use Rattle.aatry_folder.specs.Told.{ToldFolders}
use Rattle.aatry_folder.specs.Unread.{IsOfFolder}
use Rattle.aatry_folder.specs.declared.fault.Fault.{Fault}
use Rattle.aatry_report.specs.Shown.{shown_lines}
use Rattle.aatry_session.specs.Turns.{Kept}
use Rattle.aatry_session_run.specs.Faults.{told_line}
use Rattle.aatry_session_told.specs.Differing.{differing_lines}

-- Everything below the folder was read, and the text says how it differs from the files that the session has. Or it couldn't be, and the text has
-- the fault that kept it from that.
abbrev pub TellsDisk : ToldFolders → Known → List ℕ → List File → List ℕ → Type 0
TellsDisk folders known base files text =
    ((disk : List File) × (unread : List (Option UnreadFault)) × AreBelow folders known base disk unread × (text ≡ differing_lines base files disk))
    ⊎ ((fault : Fault) × IsOfFolder folders base fault × (text ≡ told_line fault))

-- The text has what is loaded, as `list` prints it, followed by how the files of the session differ from those of the disk.
abbrev pub IsStatus : ToldFolders → Known → List ℕ → List File → Kept → List ℕ → Type 0
IsStatus folders known base files kept text =
    (behind : List ℕ) × TellsDisk folders known base files behind × (text ≡ shown_lines (list_lines kept.managed.machine.now) ++ behind)
