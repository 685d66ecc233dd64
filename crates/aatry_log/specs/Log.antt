-- The report on logs, asked of a folder of policy.
use Rattle.std.specs.Prelude.{◌≡◌, ◌==◌, ◌&&◌, ◌||◌, ℕ, Bool, not, List, ◌++◌}
use Rattle.aatry_folder.specs.Reports.{Report, failed_by}
use Rattle.aatry_log.specs.Apart.{apart_text}
use Rattle.aatry_log.specs.Notes.{logs_note}
use Rattle.aatry_log.specs.Requests.{AreRequestsTold}
use Rattle.aatry_log.specs.Summary.{summary_line}
use Rattle.aatry_logs.specs.LogRequests.{LogRequests}
use Rattle.aatry_policy.specs.Folders.{Folder, left_out_in, left_out_note}
use Rattle.aatry_report.specs.declared.form.Form.{Form}

-- Logs pass, unless they are taken strictly: then each of their selected lines that holds something can be read, and each asker is in the folder.
abbrev pub passes : Bool → LogRequests → ℕ → Bool
passes strict logs nobody = not strict || (logs.requests.unreadable == 0 && nobody == 0)

-- A report has what is left out of a folder, verbose or not, each request of logs with the folder's answer, the first lines that make no question,
-- and the summary. It is noted how many files are left out, how many lines make no question, and how many questions have no asker. One failed where
-- the logs don't pass.
pub record IsLogTold (form : Form) (verbose : Bool) (folder : Folder) (strict : Bool) (logs : LogRequests) (report : Report) : Type 0 where
  pub requests : List ℕ
  pub nobody : ℕ
  pub told : AreRequestsTold form folder logs.requests.tallies (left_out_in form verbose folder) requests nobody
  pub text_is : report.text ≡ requests ++ apart_text form logs ++ summary_line form logs nobody
  pub noted : report.notes ≡ left_out_note folder ++ logs_note logs nobody
  pub counted : report.failed ≡ failed_by (passes strict logs nobody)
