-- The faults with which a command may end that asks a question of a folder of policy.
use Rattle.std.specs.Prelude.{◌≡◌, ◌⊎◌, ℕ, List}
use Rattle.aatry_folder.specs.Told.{ToldFolders}
use Rattle.aatry_folder.specs.Unread.{IsOfFolder}
use Rattle.aatry_folder.specs.declared.fault.Fault.{Fault}
use Rattle.aatry_folder.specs.declared.fault.Fault.TheVariants.{BadQuestion}
use Rattle.aatry_requests.specs.AskedWords.{AskNothing}

-- A command that asks a question by its words may end with this fault: its folder can't be read, or the words make no question.
abbrev pub IsEndOfAsking : ToldFolders → List ℕ → List (List ℕ) → Fault → Type 0
IsEndOfAsking folders base words fault = IsOfFolder folders base fault ⊎ ((fault ≡ BadQuestion) × AskNothing words)
