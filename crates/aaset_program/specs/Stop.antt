-- Why the program ends before it reads a command.
use Rattle.aaset_program.specs.declared.stop.Stop.{Stop}
use Rattle.aaset_program.specs.declared.stop.Stop.TheVariants.{Shown, Failed}
use Rattle.aaset_program.specs.declared.fault.Fault.TheVariants.{BadArguments, Untaken, NoMemory}
use Rattle.aa_start.specs.declared.fault.ArgumentFault.{ArgumentFault}
use Rattle.aa_start.specs.declared.fault.ArgumentFault.TheVariants as arguments
use Rattle.aa_start.specs.declared.gathering.GatherFault.{GatherFault}
use Rattle.aa_start.specs.declared.gathering.GatherFault.TheVariants as files

-- arguments that ask for no run: a text that was asked for is written
abbrev pub stop_at_arguments : ArgumentFault → Stop
stop_at_arguments (arguments.Help text) = Shown text
stop_at_arguments (arguments.Version text) = Shown text
stop_at_arguments arguments.Bad = Failed BadArguments
stop_at_arguments arguments.Memory = Failed NoMemory

-- files that can't be taken
abbrev pub stop_at_files : GatherFault → Stop
stop_at_files (files.Untaken name) = Failed (Untaken name)
stop_at_files files.Memory = Failed NoMemory
