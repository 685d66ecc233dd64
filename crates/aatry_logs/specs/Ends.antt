-- The faults with which gathering logs may end.
use Rattle.std.specs.Prelude.{◌≡◌, ◌⊎◌, ℕ, if◌then◌else◌, List, ◌∷◌, ◌++◌, None, Some}
use Rattle.aa_start.specs.Known.{Known}
use Rattle.aatry_folder.specs.declared.fault.Fault.{Fault}
use Rattle.aatry_folder.specs.declared.fault.Fault.TheVariants.{Read}
use Rattle.aatry_logs.specs.Opened.{IsUnopened}
use Rattle.aatry_logs.specs.Compressed.{IsOfCompressed}
use Rattle.aatry_logs.specs.Gathered.{is_input}

-- A fault has the path of a log that gzip wrote; nothing is said here of the bytes of standard input.
abbrev pub IsCompressedAt : Known → List ℕ → Fault → Type 0
IsCompressedAt known path fault = IsOfCompressed (Some path) (if is_input path then None else known.bytes_at path) fault

-- A fault keeps the log at a path from being read to its end: it can't be opened, a read of it failed, or gzip wrote it.
abbrev pub IsOfLog : Known → List ℕ → Fault → Type 0
IsOfLog known path fault = IsUnopened known path fault ⊎ (fault ≡ Read) ⊎ IsCompressedAt known path fault

-- a fault keeps the log at one of some paths from being read to its end
abbrev pub IsOfOneLog : Known → List (List ℕ) → Fault → Type 0
IsOfOneLog known paths fault =
    (before : List (List ℕ)) × (path : List ℕ) × (behind : List (List ℕ)) × (paths ≡ before ++ path ∷ behind) × IsOfLog known path fault
