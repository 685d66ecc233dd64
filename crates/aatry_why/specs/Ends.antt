-- The faults with which asking a question of the policy of a folder may end.
use Rattle.std.specs.Prelude.{ℕ, List}
use Rattle.aatry_folder.specs.Told.{ToldFolders}
use Rattle.aatry_folder.specs.declared.fault.Fault.{Fault}
use Rattle.aatry_requests.specs.Ends.{IsEndOfAsking}

-- `why` may end with this fault: its folder can't be read, or its words make no question.
abbrev pub IsEndOfWhy : ToldFolders → List ℕ → List (List ℕ) → Fault → Type 0
IsEndOfWhy folders base words fault = IsEndOfAsking folders base words fault
