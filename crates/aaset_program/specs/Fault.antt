-- What keeps the program from answering each command.
use Rattle.std.specs.Prelude.{ℕ, List, ◌++◌, string_bytes, codes}
use Rattle.std.specs.declared.io.ErrorKind.{ErrorKind}
use Rattle.std.specs.declared.io.ErrorKind.TheVariants as kind
use Rattle.aa_set.specs.declared.session.RunFault.{RunFault}
use Rattle.aa_set.specs.declared.session.RunFault.TheVariants as run
use Rattle.aaset_program.specs.declared.fault.Fault.{Fault}
use Rattle.aaset_program.specs.declared.fault.Fault.TheVariants.{BadArguments, Untaken, NoMemory, Read, Write}
use Rattle.aaset_program.specs.declared.fault.FaultText.{FaultText}

-- the message of a fault on standard error, on a line of its own
abbrev pub text_of : Fault → List ℕ
text_of BadArguments = codes "aaset: bad arguments"
text_of (Untaken name) = codes "aaset: cannot take " ++ string_bytes name
text_of NoMemory = codes "aaset: no memory"
text_of Read = codes "aaset: read fault"
text_of Write = codes "aaset: write fault"

-- a text in its two parts, the name last
abbrev pub joined : FaultText → List ℕ
joined text = text.words.now ++ text.name.now

-- the exit status: 2 where the arguments or a file are no good, and 3 where a stream or memory failed
abbrev pub status_of : Fault → ℕ
status_of BadArguments = 2
status_of (Untaken name) = 2
status_of NoMemory = 3
status_of Read = 3
status_of Write = 3

-- a fault of a run
abbrev pub fault_of_run : RunFault → Fault
fault_of_run run.Read = Read
fault_of_run run.Write = Write
fault_of_run run.Memory = NoMemory

-- a fault at the words that the program was started with: those that are no text are bad arguments
abbrev pub fault_of_words : ErrorKind → Fault
fault_of_words kind.OutOfMemory = NoMemory
fault_of_words _ = BadArguments
