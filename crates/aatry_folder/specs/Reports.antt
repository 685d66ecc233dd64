-- The report of a command.
use Rattle.std.specs.Prelude.{ℕ, Bool, if◌then◌else◌, List}
use Rattle.aatry_folder.specs.declared.report.Report.{Report as CodeReport}

-- the report of a command: its text, the notes beside that on standard error, and how much of it failed
pub record Report : Type 0 where
  pub text : List ℕ
  pub notes : List ℕ
  pub failed : ℕ

-- a report of the code
abbrev pub seen_report : CodeReport → Report
seen_report report = record { text = report.text.items; notes = report.notes.items; failed = report.failed }

-- how many failed, where one was tried
abbrev pub failed_by : Bool → ℕ
failed_by passed = if passed then 0 else 1
