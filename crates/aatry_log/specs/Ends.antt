-- The faults with which asking a folder of policy by logs may end.
use Rattle.std.specs.Prelude.{◌⊎◌}
use Rattle.aa_start.specs.Known.{Known}
use Rattle.aatry_arguments.specs.LogWords.{LogsAsked}
use Rattle.aatry_folder.specs.Told.{ToldFolders}
use Rattle.aatry_folder.specs.Unread.{IsOfFolder}
use Rattle.aatry_folder.specs.declared.fault.Fault.{Fault}
use Rattle.aatry_logs.specs.Ends.{IsOfOneLog}
use Rattle.aatry_logs.specs.Gathered.{meant_paths}

-- `log` may end with this fault: its folder can't be read, or one of its logs.
abbrev pub IsEndOfLog : ToldFolders → Known → LogsAsked → Fault → Type 0
IsEndOfLog folders known asked fault = IsOfFolder folders asked.base fault ⊎ IsOfOneLog known (meant_paths asked.paths) fault
