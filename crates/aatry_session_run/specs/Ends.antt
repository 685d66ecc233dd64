-- The faults with which a session over a folder of policy may end.
use Rattle.std.specs.Prelude.{◌≡◌, ◌⊎◌, ℕ, List}
use Rattle.aatry_folder.specs.Told.{ToldFolders}
use Rattle.aatry_folder.specs.Unread.{IsOfFolder}
use Rattle.aatry_folder.specs.declared.fault.Fault.{Fault}
use Rattle.aatry_folder.specs.declared.fault.Fault.TheVariants.{Read, Write}

-- A session may end with this fault: its folder can't be read, or its input or its output failed.
abbrev pub IsEndOfSession : ToldFolders → List ℕ → Fault → Type 0
IsEndOfSession folders base fault = IsOfFolder folders base fault ⊎ (fault ≡ Read) ⊎ (fault ≡ Write)
