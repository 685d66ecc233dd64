-- The summary of logs.
use Rattle.std.specs.Prelude.{ℕ, List, [], ◌∷◌, ◌++◌, codes}
use Rattle.aatry_logs.specs.LogRequests.{LogRequests}
use Rattle.aatry_report.specs.Fields.{Number, Said, Words, told}
use Rattle.aatry_report.specs.declared.form.Form.{Form}
use Rattle.aatry_requests.specs.Counts.{Share, summary_fields}

-- the share of questions whose asker isn't in the folder
abbrev pub of_nobody : ℕ → Share
of_nobody number = record { number = number; words = codes " of nobody here, "; name = codes "nobody" }

-- the fields of the summary, by how many questions have no asker, and last how many lines are passed over
abbrev pub fields_of : LogRequests → ℕ → List Said
fields_of logs nobody =
    summary_fields logs.requests (of_nobody nobody)
    ++ Words (codes ", ") ∷ Number (codes "passed_over") logs.passed_over ∷ Words (codes " passed over") ∷ []

abbrev pub summary_line : Form → LogRequests → ℕ → List ℕ
summary_line form logs nobody = told form (codes "summary") (fields_of logs nobody)
