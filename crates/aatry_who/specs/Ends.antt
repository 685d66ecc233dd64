-- The faults with which asking who would be let through by the policy of a folder may end.
use Rattle.std.specs.Prelude.{ℕ, List}
use Rattle.aatry_folder.specs.Told.{ToldFolders}
use Rattle.aatry_folder.specs.declared.fault.Fault.{Fault}
use Rattle.aatry_requests.specs.AskedWords.{letting_words}
use Rattle.aatry_requests.specs.Ends.{IsEndOfAsking}

-- `who` may end with this fault: its folder can't be read, or its words make no question.
abbrev pub IsEndOfWho : ToldFolders → List ℕ → List (List ℕ) → Fault → Type 0
IsEndOfWho folders base words fault = IsEndOfAsking folders base (letting_words words) fault
