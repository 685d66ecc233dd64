-- The faults with which a question about all paths may end.
use Rattle.std.specs.Prelude.{◌≡◌, ◌⊎◌, ℕ, List, None, Option, Some}
use Rattle.aa_profile_parsing.specs.declared.language.Language.{Language}
use Rattle.aa_text_files.specs.Files.{File}
use Rattle.aa_start.specs.Known.{Known}
use Rattle.aa_start.specs.declared.readable.UnreadFault.{UnreadFault}
use Rattle.aatry_folder.specs.PolicyFolders.{AreBelow}
use Rattle.aatry_folder.specs.Told.{ToldFolders}
use Rattle.aatry_folder.specs.Unread.{IsOfFolder}
use Rattle.aatry_folder.specs.declared.fault.Fault.{Fault}
use Rattle.aatry_folder.specs.declared.fault.Fault.TheVariants.{BadQuestion}
use Rattle.aatry_claims.specs.Patterns.{asked_patterns}
use Rattle.aatry_claims.specs.Words.{PathWords, path_words}

-- words make no question about paths of a folder: they are no such words, or their pattern isn't accepted among these files
abbrev pub AskNoPaths : Language → List File → List (List ℕ) → Type 0
AskNoPaths language files words =
    (path_words words ≡ None) ⊎ ((asked : PathWords) × (path_words words ≡ Some asked) × (asked_patterns language files asked.pattern ≡ None))

-- The command may end with this fault: its folder can't be read, or the words make no question about paths, with the files that lie below it.
abbrev pub IsEndOfPaths : Language → ToldFolders → Known → List ℕ → List (List ℕ) → Fault → Type 0
IsEndOfPaths language folders known base words fault =
    IsOfFolder folders base fault
    ⊎ ((fault ≡ BadQuestion) × (files : List File) × (unread : List (Option UnreadFault)) × AreBelow folders known base files unread × AskNoPaths language files words)
