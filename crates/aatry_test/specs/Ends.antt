-- The faults with which a test of transcripts over a folder of policy may end.
use Rattle.std.specs.Prelude.{◌⊎◌, ℕ, Bool, List, [], Option}
use Rattle.aa_profile_parsing.specs.declared.language.Language.{Language}
use Rattle.aa_text_files.specs.Files.{File}
use Rattle.aa_start.specs.Known.{Known}
use Rattle.aatry_folder.specs.Reports.{Report}
use Rattle.aatry_folder.specs.Told.{ToldFolders}
use Rattle.aatry_folder.specs.Unread.{IsOfFolder, IsOfOneFile}
use Rattle.aatry_folder.specs.declared.fault.Fault.{Fault}
use Rattle.aatry_test.specs.Below.{IsTestedBelow}
use Rattle.aatry_test.specs.Stores.{IsOfStore, Replaces, ReplacesUpTo}

-- A test may end with this fault before any file is replaced: its folder can't be read, or one of the transcripts.
abbrev pub IsUnread : ToldFolders → Known → List ℕ → List (List ℕ) → Fault → Type 0
IsUnread folders known base paths fault = IsOfFolder folders base fault ⊎ IsOfOneFile known paths fault

-- A test may end with this fault: nothing was replaced then; or all transcripts were tested, and one of those that were accepted couldn't be
-- replaced.
abbrev pub IsEndOfTest : Language → ToldFolders → Known → List ℕ → List (List ℕ) → Bool → Option (List File) → Option (List File) → Fault → Type 0
IsEndOfTest language folders known base paths accept before after fault =
    (IsUnread folders known base paths fault × Replaces before after [])
    ⊎ ((report : Report) × (replaced : List File) × IsTestedBelow language folders known base paths accept report replaced
    × ReplacesUpTo before after replaced × IsOfStore fault)
