-- Under which profiles programs may run that are started by those whom words name, by the policy of a folder.
use Rattle.std.specs.Prelude.{◌≡◌, ℕ, Bool, true, false, not, List, ◌++◌, Option}
use Rattle.aa_decide_ready.specs.Entries.{Loaded}
use Rattle.aa_decide_ready.specs.Slots.{filled}
use Rattle.aa_profile_parsing.specs.declared.language.Language.{Language}
use Rattle.aa_text_files.specs.Files.{File}
use Rattle.aa_start.specs.Gathering.{names_of}
use Rattle.aa_start.specs.Known.{Known}
use Rattle.aa_start.specs.declared.readable.UnreadFault.{UnreadFault}
use Rattle.aatry_arguments.specs.ReachWords.{ReachAsked}
use Rattle.aatry_folder.specs.Loadings.{AreTop, TopFile}
use Rattle.aatry_folder.specs.PolicyFolders.{AreBelow, tried_names}
use Rattle.aatry_folder.specs.Reports.{failed_by}
use Rattle.aatry_folder.specs.Told.{ToldFolders}
use Rattle.aatry_folder.specs.Unread.{IsOfFolder}
use Rattle.aatry_folder.specs.declared.fault.Fault.{Fault}
use Rattle.aatry_claims.specs.Never.{PathsReport}
use Rattle.aatry_policy.specs.Folders.{Folder, folder_at, left_out_in, left_out_note, policy_in}
use Rattle.aatry_reach.specs.Finding.{AreFound, Found, has_absent, has_undecided}
use Rattle.aatry_reach.specs.Graph.{graph}
use Rattle.aatry_reach.specs.Telling.{all_told}
use Rattle.aatry_report.specs.declared.form.Form.{Form}
use Rattle.aatry_report.specs.declared.form.Form.TheVariants.{Lines, Records}

-- what is told of all that is found: lines or records, or a graph where that is asked for in lines
abbrev pub reach_text : Form → Bool → List (Option Loaded) → List Found → List ℕ
reach_text Lines true slots found = graph slots found
reach_text Lines false slots found = all_told Lines slots found
reach_text Records dot slots found = all_told Records slots found

-- What is found of those whom words name is right, by what is loaded of a folder, and is told behind a text; and it is known whether nobody has a name, and
-- whether it isn't known where all lead that are reached.
pub record IsFoundTold (form : Form) (dot : Bool) (limit : ℕ) (entries : List Loaded) (names : List (List ℕ)) (before after : List ℕ) (absent undecided : Bool) : Type 0 where
  pub slots : List (Option Loaded)
  pub loaded : filled slots ≡ entries
  pub found : List Found
  pub right : AreFound slots limit names found
  pub told : after ≡ before ++ reach_text form dot slots found
  pub lacks : absent ≡ has_absent found
  pub unknown : undecided ≡ has_undecided found

-- Of a folder the text tells the files that are left out, at length or not, and what is found, and it is noted how many are left out. One failed where nobody
-- has a name.
pub record IsReachIn (form : Form) (verbose : Bool) (dot : Bool) (limit : ℕ) (names : List (List ℕ)) (folder : Folder) (told : PathsReport) : Type 0 where
  pub absent : Bool
  pub found : IsFoundTold form dot limit (policy_in folder) names (left_out_in form verbose folder) told.report.text absent told.undecided
  pub noted : told.report.notes ≡ left_out_note folder
  pub counted : told.report.failed ≡ failed_by (not absent)

-- This is a folder on a disk, with all that lies below it, by a language.
pub record IsReachTold (form : Form) (verbose : Bool) (language : Language) (folders : ToldFolders) (known : Known) (asked : ReachAsked) (told : PathsReport) : Type 0 where
  pub files : List File
  pub unread : List (Option UnreadFault)
  pub below : AreBelow folders known asked.asking.base files unread
  pub top : List TopFile
  pub loaded : AreTop folders asked.asking.base (tried_names (names_of files) unread) top
  pub reach : IsReachIn form verbose asked.dot asked.limit asked.asking.words (folder_at language asked.asking.base files unread top) told

-- The command may end with this fault: its folder can't be read.
abbrev pub IsEndOfReach : ToldFolders → ReachAsked → Fault → Type 0
IsEndOfReach folders asked fault = IsOfFolder folders asked.asking.base fault
