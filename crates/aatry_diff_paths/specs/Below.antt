-- What a comparison of two folders of policy for all paths comes to.
use Rattle.std.specs.Prelude.{◌≡◌, ◌⊎◌, ℕ, Bool, not, List, ◌++◌, Option}
use Rattle.aa_decide_ready.specs.Entries.{Loaded}
use Rattle.aa_decide_ready.specs.Slots.{filled}
use Rattle.aa_profile_parsing.specs.declared.language.Language.{Language}
use Rattle.aa_text_files.specs.Files.{File}
use Rattle.aa_start.specs.Gathering.{names_of}
use Rattle.aa_start.specs.Known.{Known}
use Rattle.aa_start.specs.declared.readable.UnreadFault.{UnreadFault}
use Rattle.aatry_arguments.specs.DiffAllWords.{PathComparisonAsked}
use Rattle.aatry_folder.specs.Loadings.{AreTop, TopFile}
use Rattle.aatry_folder.specs.PolicyFolders.{AreBelow, tried_names}
use Rattle.aatry_folder.specs.Reports.{failed_by}
use Rattle.aatry_folder.specs.Told.{ToldFolders}
use Rattle.aatry_folder.specs.Unread.{IsOfFolder}
use Rattle.aatry_folder.specs.declared.fault.Fault.{Fault}
use Rattle.aatry_claims.specs.Never.{PathsReport}
use Rattle.aatry_policy.specs.FolderParts.{FolderParts, by_parts}
use Rattle.aatry_policy.specs.Folders.{Folder, below, folder_at, left_out_in, left_out_note, policy_in, seen_folder}
use Rattle.aatry_policy.specs.Parts.{set_parts}
use Rattle.aatry_policy.specs.declared.folder.LoadedFolder.{LoadedFolder}
use Rattle.aatry_report.specs.declared.form.Form.{Form}
use Rattle.aatry_uncertain.specs.LeftOutHeads.{LeftOutHead, heads_left_out}
use Rattle.aatry_path_changes.specs.Finding.{AreFound, Found, names_or}
use Rattle.aatry_path_changes.specs.Starts.{Policies}
use Rattle.aatry_path_changes.specs.Kinds.{has_otherwise, has_undecided, kinds_of}
use Rattle.aatry_diff_paths.specs.Summary.{summary_text}
use Rattle.aatry_diff_paths.specs.Telling.{all_text}
use Rattle.aatry_diff_paths.specs.declared.below.Asked.{Asked}

-- how it is told: whether the words alone are, whether answers are the same that differ in how they are logged alone; and the limit
pub record How : Type 0 where
  pub stat : Bool
  pub quiet : Bool
  pub limit : ℕ

abbrev pub seen_how : Asked → How
seen_how asked = record { stat = asked.how.stat; quiet = asked.how.quiet; limit = asked.limit }

abbrev pub how_of : PathComparisonAsked → How
how_of asked = record { stat = asked.stat; quiet = asked.quiet_audit; limit = asked.limit }

-- a folder by the parts of what is loaded of it
abbrev pub seen_loaded : LoadedFolder → FolderParts
seen_loaded loaded = record {
  below = below (seen_folder loaded.folder.now);
  parts = set_parts loaded.policy.manager.machine.now loaded.policy.origins.items;
}

-- what is told of all that is found, and what sums up
unfoldable pub compared_text : Form → How → List LeftOutHead → FolderParts → FolderParts → List Found → List ℕ
compared_text form how heads old new found = all_text form how.stat heads old new found ++ summary_text form (kinds_of found)

-- What is found of those who are compared is right, by the parts of both folders and by their policy sets, and is told behind a text; and it is known whether
-- something differs of somebody, and whether nothing is known of the paths of somebody.
pub record IsFoundTold (form : Form) (how : How) (heads : List LeftOutHead) (old new : FolderParts) (old_set new_set : List Loaded) (who : List (List ℕ)) (before after : List ℕ) (otherwise undecided : Bool) : Type 0 where
  pub policies : Policies
  pub old_loaded : filled policies.old ≡ old_set
  pub new_loaded : filled policies.new ≡ new_set
  pub found : List Found
  pub right : AreFound how.quiet how.limit policies old new (names_or who old new) found
  pub told : after ≡ before ++ compared_text form how heads old new found
  pub differs : otherwise ≡ has_otherwise found
  pub unknown : undecided ≡ has_undecided found

-- Two folders were compared: the text tells the files of either that are left out, at length or not, and what is found, and it is noted how many are left
-- out. One failed where something is known to differ of somebody.
pub record IsCompared (form : Form) (verbose : Bool) (how : How) (who : List (List ℕ)) (old new : Folder) (told : PathsReport) : Type 0 where
  pub otherwise : Bool
  pub found : IsFoundTold form how (heads_left_out new) (by_parts old) (by_parts new) (policy_in old) (policy_in new) who (left_out_in form verbose old ++ left_out_in form verbose new) told.report.text otherwise told.undecided
  pub noted : told.report.notes ≡ left_out_note old ++ left_out_note new
  pub counted : told.report.failed ≡ failed_by (not otherwise)

-- These are two folders on a disk, each with all that lies below it, both by one language.
pub record ArePathsCompared (form : Form) (verbose : Bool) (language : Language) (folders : ToldFolders) (known : Known) (asked : PathComparisonAsked) (told : PathsReport) : Type 0 where
  pub old_files : List File
  pub new_files : List File
  pub old_unread : List (Option UnreadFault)
  pub new_unread : List (Option UnreadFault)
  pub old_below : AreBelow folders known asked.old old_files old_unread
  pub new_below : AreBelow folders known asked.new new_files new_unread
  pub old_top : List TopFile
  pub new_top : List TopFile
  pub old_loaded : AreTop folders asked.old (tried_names (names_of old_files) old_unread) old_top
  pub new_loaded : AreTop folders asked.new (tried_names (names_of new_files) new_unread) new_top
  pub compared : IsCompared form verbose (how_of asked) asked.who (folder_at language asked.old old_files old_unread old_top) (folder_at language asked.new new_files new_unread new_top) told

-- The command may end with this fault: one of the two folders can't be read.
abbrev pub IsEndOfPathComparison : ToldFolders → PathComparisonAsked → Fault → Type 0
IsEndOfPathComparison folders asked fault = IsOfFolder folders asked.old fault ⊎ IsOfFolder folders asked.new fault
