-- The rules that allow the requests of logs, asked of a folder of policy.
use Rattle.std.specs.Prelude.{◌≡◌, ℕ, Bool, true, false, List, ◌++◌, codes}
use Rattle.aatry_arguments.specs.LogWords.{LogTellingAsked}
use Rattle.aatry_folder.specs.Reports.{Report, failed_by}
use Rattle.aatry_log.specs.Apart.{apart_text}
use Rattle.aatry_log.specs.Log.{IsLogTold, passes}
use Rattle.aatry_log.specs.Notes.{logs_note}
use Rattle.aatry_log.specs.Prefixed.{prefixed_text}
use Rattle.aatry_log.specs.Summary.{summary_line}
use Rattle.aatry_log_rules.specs.Told.{AreRulesTold}
use Rattle.aatry_logs.specs.LogRequests.{LogRequests}
use Rattle.aatry_policy.specs.Folders.{Folder, left_out_in, left_out_note}
use Rattle.aatry_report.specs.declared.form.Form.{Form}

-- lines as comments
abbrev pub aside : Form → List ℕ → List ℕ
aside form text = prefixed_text form (codes "# ") text

-- A report has the rules that allow the requests of logs which lack something of a folder, with wider ones where these are asked for, and on lines
-- as comments what is left out before them, and after them the first lines that make no question, and the summary. It has the notes on logs, and one
-- failed where they don't pass.
pub record AreLogRulesTold (telling : LogTellingAsked) (form : Form) (verbose : Bool) (folder : Folder) (logs : LogRequests) (report : Report) : Type 0 where
  pub rules : List ℕ
  pub nobody : ℕ
  pub told : AreRulesTold form telling.globs folder logs.requests.tallies (aside form (left_out_in form verbose folder)) rules nobody
  pub text_is : report.text ≡ rules ++ aside form (apart_text form logs ++ summary_line form logs nobody)
  pub noted : report.notes ≡ left_out_note folder ++ logs_note logs nobody
  pub counted : report.failed ≡ failed_by (passes telling.strict logs nobody)

-- a report has these rules, or else the answers
abbrev pub IsAnswered : (rules : Bool) → LogTellingAsked → Form → Bool → Folder → LogRequests → Report → Type 0
IsAnswered true telling form verbose folder logs report = AreLogRulesTold telling form verbose folder logs report
IsAnswered false telling form verbose folder logs report = IsLogTold form verbose folder telling.strict logs report

-- the report is the one that is asked for
abbrev pub IsLogAnswered : LogTellingAsked → Form → Bool → Folder → LogRequests → Report → Type 0
IsLogAnswered telling form verbose folder logs report = IsAnswered telling.rules telling form verbose folder logs report
