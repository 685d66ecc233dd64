-- The report on logs, asked of a folder of policy on disk.
use Rattle.std.specs.Prelude.{ℕ, Bool, List, Option}
use Rattle.aa_profile_parsing.specs.declared.language.Language.{Language}
use Rattle.aa_text_files.specs.Files.{File}
use Rattle.aa_start.specs.Gathering.{names_of}
use Rattle.aa_start.specs.Known.{Known}
use Rattle.aa_start.specs.declared.readable.UnreadFault.{UnreadFault}
use Rattle.aatry_arguments.specs.LogWords.{LogLinesAsked, LogsAsked}
use Rattle.aatry_folder.specs.Loadings.{AreTop, TopFile}
use Rattle.aatry_folder.specs.PolicyFolders.{AreBelow, tried_names}
use Rattle.aatry_folder.specs.Reports.{Report}
use Rattle.aatry_folder.specs.Told.{ToldFolders}
use Rattle.aatry_log.specs.Rules.{IsLogAnswered}
use Rattle.aatry_log_lines.specs.Selections.{Selection}
use Rattle.aatry_logs.specs.Gathered.{AreGathered, meant_paths}
use Rattle.aatry_logs.specs.LogRequests.{LogRequests, nothing}
use Rattle.aatry_policy.specs.Folders.{folder_at}
use Rattle.aatry_report.specs.declared.form.Form.{Form}

-- the selection of the lines that count
abbrev pub selection_by : LogLinesAsked → Selection
selection_by lines = record { denied = lines.denied; profile = lines.profile; since = lines.since }

-- The requests of all named logs, of their selected lines, were asked of the files at the top of the folder, with all that lies below it, by a
-- language: the text has the answers, or the rules that allow them, and it is noted what the answers don't cover. One failed where the logs don't
-- pass.
pub record IsLogToldBelow (form : Form) (verbose : Bool) (language : Language) (folders : ToldFolders) (known : Known) (left : Option (List ℕ)) (asked : LogsAsked)
    (report : Report) : Type 0 where
  pub files : List File
  pub unread : List (Option UnreadFault)
  pub below : AreBelow folders known asked.base files unread
  pub top : List TopFile
  pub loaded : AreTop folders asked.base (tried_names (names_of files) unread) top
  pub logs : LogRequests
  pub read : AreGathered (selection_by asked.lines) known left (meant_paths asked.paths) nothing logs
  pub told : IsLogAnswered asked.telling form verbose (folder_at language asked.base files unread top) logs report
