-- The exit status.
use Rattle.std.specs.Prelude.{◌==◌, ◌&&◌, ℕ, Bool, if◌then◌else◌}
use Rattle.std.specs.declared.io.ErrorKind.{ErrorKind}
use Rattle.std.specs.declared.io.ErrorKind.TheVariants as kind
use Rattle.aatry_folder.specs.declared.fault.Fault.{Fault}
use Rattle.aatry_folder.specs.declared.fault.Fault.TheVariants.{BadArguments, BadQuestion, Unreadable, TooMany, Compressed, NoMemory, Read, Write}

-- the exit status of a command, by how much of it failed
abbrev pub failure_status : ℕ → ℕ
failure_status failed = if failed == 0 then 0 else 1

-- that of a question about all paths: 3 where nothing is known of somebody, and nobody says otherwise
abbrev pub paths_status : ℕ → Bool → ℕ
paths_status failed undecided = if failed == 0 && undecided then 3 else failure_status failed

-- the exit status of a fault: 2 where what was asked for can't be had, and 3 where a stream or memory failed
abbrev pub status_of : Fault → ℕ
status_of BadArguments = 2
status_of BadQuestion = 2
status_of (Unreadable _) = 2
status_of TooMany = 2
status_of (Compressed _) = 2
status_of NoMemory = 3
status_of Read = 3
status_of Write = 3

-- a fault at the words that the program was started with: those that are no text are bad arguments
abbrev pub fault_of_words : ErrorKind → Fault
fault_of_words kind.OutOfMemory = NoMemory
fault_of_words _ = BadArguments
