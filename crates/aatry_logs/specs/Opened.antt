-- The file at a path of its own, as an input.
use Rattle.std.specs.Prelude.{◌≡◌, ℕ, List, String, string_bytes, ⊤}
use Rattle.std.specs.declared.io.ErrorKind.{ErrorKind}
use Rattle.std.specs.declared.io.ErrorKind.TheVariants as kind
use Rattle.std.specs.declared.alloc.Global.{Global}
use Rattle.aa_start.specs.Known.{Known}
use Rattle.aatry_folder.specs.declared.fault.Fault.{Fault}
use Rattle.aatry_folder.specs.declared.fault.Fault.TheVariants.{NoMemory, Unreadable}

-- the fault where the file at a path can't be opened, by the kind of the system's error
abbrev pub fault_by : String Global → ErrorKind → Fault
fault_by path kind.OutOfMemory = NoMemory
fault_by path _ = Unreadable path

-- A fault keeps the file at a path from being opened: the path, which the fault has, is one where none can be; or memory ran out.
abbrev pub IsUnopened : Known → List ℕ → Fault → Type 0
IsUnopened known path (Unreadable name) = (string_bytes name ≡ path) × known.IsUnreadable path
IsUnopened known path NoMemory = ⊤
IsUnopened known path fault = ⊥
