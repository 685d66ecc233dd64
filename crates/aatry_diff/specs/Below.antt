-- The outcome of a comparison of two folders of policy on disk.
use Rattle.std.specs.Prelude.{◌≡◌, ℕ, Bool, false, List, [], ◌∷◌, Option, None, Some}
use Rattle.aa_profile_parsing.specs.declared.language.Language.{Language}
use Rattle.aa_text_files.specs.Files.{File, bytes_at}
use Rattle.aa_start.specs.Gathering.{names_of}
use Rattle.aa_start.specs.Known.{Known}
use Rattle.aa_start.specs.declared.readable.UnreadFault.{UnreadFault}
use Rattle.aatry_arguments.specs.DiffWords.{ComparisonAsked, LogAt, QuestionsAt, SourceAsked}
use Rattle.aatry_diff.specs.Comparing.{diff_notes, diff_text, is_unchanged}
use Rattle.aatry_folder.specs.Loadings.{AreTop, TopFile}
use Rattle.aatry_folder.specs.OneFile.{IsFileAt}
use Rattle.aatry_folder.specs.PolicyFolders.{AreBelow, tried_names}
use Rattle.aatry_folder.specs.Reports.{Report, failed_by}
use Rattle.aatry_folder.specs.Told.{ToldFolders}
use Rattle.aatry_logs.specs.Compressed.{is_compressed}
use Rattle.aatry_policy.specs.Folders.{folder_at}
use Rattle.aatry_report.specs.declared.form.Form.{Form}
use Rattle.aatry_requests.specs.Gathering.{Gathered, gathered}
use Rattle.aatry_requests.specs.declared.sources.Source.{Source}
use Rattle.aatry_requests.specs.declared.sources.Source.TheVariants.{Log, Questions}

-- the form of a source of requests
abbrev pub form_of : SourceAsked → Source
form_of (LogAt path) = Log
form_of (QuestionsAt path) = Questions

-- the path of a source of requests
abbrev pub path_of : SourceAsked → List ℕ
path_of (LogAt path) = path
path_of (QuestionsAt path) = path

-- The one of these files is that of this path, and gzip didn't write it.
abbrev pub IsPlainAt : Known → List ℕ → List File → Type 0
IsPlainAt known path files = IsFileAt known path files × (is_compressed (bytes_at files 0) ≡ false)

-- The requests of a source are gathered from the file at its path, which gzip didn't write; where there is no source, nothing is.
abbrev pub IsGathered : Known → Option SourceAsked → Option Gathered → Type 0
IsGathered known None requests = requests ≡ None
IsGathered known (Some source) requests =
    (bytes : List ℕ) × IsPlainAt known (path_of source) ((path_of source, bytes) ∷ []) × (requests ≡ Some (gathered (form_of source) bytes))

-- The two folders, each with all that lies below it and both by one language, were compared, by the file of requests too, if there is one: the text
-- reports how they differ, and it is noted how many files of each are left out. One failed where something differs, or a file is newly left out.
pub record IsComparedBelow
    (form : Form) (verbose : Bool) (language : Language) (folders : ToldFolders) (known : Known) (asked : ComparisonAsked) (report : Report) : Type 0 where
  pub old_files : List File
  pub new_files : List File
  pub old_unread : List (Option UnreadFault)
  pub new_unread : List (Option UnreadFault)
  pub old_below : AreBelow folders known asked.old old_files old_unread
  pub new_below : AreBelow folders known asked.new new_files new_unread
  pub old_top : List TopFile
  pub new_top : List TopFile
  pub old_loaded : AreTop folders asked.old (tried_names (names_of old_files) old_unread) old_top
  pub new_loaded : AreTop folders asked.new (tried_names (names_of new_files) new_unread) new_top
  pub requests : Option Gathered
  pub gathered : IsGathered known asked.source requests
  pub told : report.text ≡ diff_text form verbose asked.stat (folder_at language asked.old old_files old_unread old_top) (folder_at language asked.new new_files new_unread new_top) requests
  pub noted : report.notes ≡ diff_notes (folder_at language asked.old old_files old_unread old_top) (folder_at language asked.new new_files new_unread new_top)
  pub counted : report.failed ≡ failed_by (is_unchanged (folder_at language asked.old old_files old_unread old_top) (folder_at language asked.new new_files new_unread new_top) requests)
