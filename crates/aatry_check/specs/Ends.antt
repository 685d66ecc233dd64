-- With which faults a check of a folder of policy may end.
use Rattle.std.specs.Prelude.{ℕ, List}
use Rattle.aatry_folder.specs.Told.{ToldFolders}
use Rattle.aatry_folder.specs.Unread.{IsOfFolder}
use Rattle.aatry_folder.specs.declared.fault.Fault.{Fault}

-- A check may end with this fault: its folder can't be read.
abbrev pub IsEndOfCheck : ToldFolders → List ℕ → Fault → Type 0
IsEndOfCheck folders base fault = IsOfFolder folders base fault
