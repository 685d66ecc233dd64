-- What a fault of reading folders and files is to the program.
use Rattle.aa_start.specs.declared.gathering.GatherFault.{GatherFault}
use Rattle.aa_start.specs.declared.gathering.GatherFault.TheVariants as files
use Rattle.aatry_folder.specs.declared.below.FolderFault.{FolderFault}
use Rattle.aatry_folder.specs.declared.below.FolderFault.TheVariants as folder
use Rattle.aatry_folder.specs.declared.fault.Fault.{Fault}
use Rattle.aatry_folder.specs.declared.fault.Fault.TheVariants.{Unreadable, TooMany, NoMemory}

abbrev pub fault_of_folder : FolderFault → Fault
fault_of_folder (folder.Unreadable name) = Unreadable name
fault_of_folder folder.TooMany = TooMany
fault_of_folder folder.Memory = NoMemory

abbrev pub fault_of_files : GatherFault → Fault
fault_of_files (files.Untaken name) = Unreadable name
fault_of_files files.Memory = NoMemory
