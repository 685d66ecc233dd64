-- The summary.
use Rattle.std.specs.Prelude.{ℕ, List, codes}
use Rattle.aatry_report.specs.declared.form.Form.{Form}
use Rattle.aatry_requests.specs.Counts.{Share, summary_text}
use Rattle.aatry_requests.specs.Gathering.{Gathered}

-- the questions whose answers differ
abbrev pub answered_otherwise : ℕ → Share
answered_otherwise number = record { number = number; words = codes " answered otherwise, "; name = codes "differing" }

-- the summary, by how many these are
abbrev pub summary_line : Form → Gathered → ℕ → List ℕ
summary_line form gathered differing = summary_text form gathered (answered_otherwise differing)
