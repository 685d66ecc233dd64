-- The outcome of a check of the rules of a folder of policy.
use Rattle.std.specs.Prelude.{◌≡◌, ℕ, Bool, not, ◌||◌, ◌==◌, List, ◌++◌, Option}
use Rattle.std.specs.List.{list_any}
use Rattle.aa_decide_ready.specs.Entries.{Loaded}
use Rattle.aa_decide_ready.specs.Slots.{filled}
use Rattle.aa_profile_parsing.specs.declared.language.Language.{Language}
use Rattle.aa_text_files.specs.Files.{File}
use Rattle.aa_start.specs.Gathering.{names_of}
use Rattle.aa_start.specs.Known.{Known}
use Rattle.aa_start.specs.declared.readable.UnreadFault.{UnreadFault}
use Rattle.aatry_arguments.specs.CheckWords.{CheckAsked}
use Rattle.aatry_folder.specs.Loadings.{AreTop, TopFile}
use Rattle.aatry_folder.specs.PolicyFolders.{AreBelow, tried_names}
use Rattle.aatry_folder.specs.Reports.{failed_by}
use Rattle.aatry_folder.specs.Told.{ToldFolders}
use Rattle.aatry_folder.specs.Unread.{IsOfFolder}
use Rattle.aatry_folder.specs.declared.fault.Fault.{Fault}
use Rattle.aatry_claims.specs.Never.{PathsReport}
use Rattle.aatry_policy.specs.FolderParts.{FolderParts, by_parts}
use Rattle.aatry_policy.specs.Folders.{Folder, below, folder_at, left_out_in, left_out_note, origins_in, policy_in, seen_folder}
use Rattle.aatry_policy.specs.Parts.{set_parts}
use Rattle.aatry_policy.specs.declared.folder.LoadedFolder.{LoadedFolder}
use Rattle.aatry_policy.specs.declared.origins.Origin.{Origin}
use Rattle.aatry_report.specs.declared.form.Form.{Form}
use Rattle.aatry_check_rules.specs.Finding.{AreFound, Found, is_absent, parts_asked, some_many, some_told}
use Rattle.aatry_check_rules.specs.Summary.{summary_text}
use Rattle.aatry_check_rules.specs.Telling.{absents_text, all_text}
use Rattle.aatry_check_rules.specs.Unattached.{AreUnattachedFound, is_too_many, some_asks, unattached_count}
use Rattle.aatry_check_rules.specs.UnattachedTold.{unattached_text}
use Rattle.aatry_check_rules.specs.Written.{Which}
use Rattle.aatry_check_rules.specs.declared.below.RulesHow.{RulesHow}

-- which written rules of a folder are tried
abbrev pub which_of : RulesHow → FolderParts → Which
which_of how folder = record { included = how.included; files = folder.below.files }

-- a folder by its parts, the slots of its policy set, and where each profile of that was read
pub record Checked : Type 0 where
  pub folder : FolderParts
  pub slots : List (Option Loaded)
  pub origins : List Origin

-- what is found of it, where files of these names are asked about: of the parts, and which slots hold profiles that no path is attached to
pub record AllFound : Type 0 where
  pub found : List Found
  pub unattached : Option (List ℕ)

-- how many of these are asked about
abbrev pub unattached_in : Checked → List (List ℕ) → AllFound → ℕ
unattached_in checked names all = unattached_count checked.slots checked.origins names all.unattached

-- the report on all findings, on the named files that don't exist, and the summary
abbrev pub checked_text : Form → Checked → List (List ℕ) → AllFound → List ℕ
checked_text form checked names all =
    all_text form checked.folder.below all.found ++ unattached_text form checked.folder.below checked.slots checked.origins names all.unattached
    ++ absents_text form checked.folder.parts names ++ summary_text form checked.folder.parts names all.found (unattached_in checked names all)

-- some written rule decides nothing, or no path is attached to some profile that is asked about, or a named file doesn't exist
abbrev pub has_fault : Checked → List (List ℕ) → AllFound → Bool
has_fault checked names all =
    some_told all.found || not (unattached_in checked names all == 0) || list_any (is_absent checked.folder.parts) names

-- some part has too many paths, or the attachments have
abbrev pub is_undecided : AllFound → Bool
is_undecided all = some_many all.found || is_too_many all.unattached

-- the findings for the parts of the named files, or of all, are right
pub record AreAllFound (how : RulesHow) (checked : Checked) (names : List (List ℕ)) (all : AllFound) : Type 0 where
  pub parts : AreFound (which_of how checked.folder) how.limit (parts_asked names checked.folder.parts) all.found
  pub profiles : AreUnattachedFound (some_asks checked.slots checked.origins names) checked.slots how.limit all.unattached

-- They are appended to a text; and it is known whether something is at fault, and whether something isn't known.
pub record AreRulesTold (form : Form) (how : RulesHow) (checked : Checked) (names : List (List ℕ)) (before after : List ℕ) (faulty undecided : Bool) : Type 0 where
  pub all : AllFound
  pub right : AreAllFound how checked names all
  pub told : after ≡ before ++ checked_text form checked names all
  pub faults : faulty ≡ has_fault checked names all
  pub unknown : undecided ≡ is_undecided all

-- The same of a folder whose policy set is that.
pub record AreFolderRulesTold (form : Form) (how : RulesHow) (folder : FolderParts) (entries : List Loaded) (origins : List Origin) (names : List (List ℕ)) (before after : List ℕ) (faulty undecided : Bool) : Type 0 where
  pub slots : List (Option Loaded)
  pub loaded : filled slots ≡ entries
  pub rules : AreRulesTold form how (record { folder = folder; slots = slots; origins = origins }) names before after faulty undecided

-- The rules of a folder were checked: the text has the files that are left out, verbose or not, and the findings, and it is noted how many are left
-- out. One failed where some rule decides nothing, no path is attached to some profile, or a named file doesn't exist.
pub record AreRulesIn (form : Form) (verbose : Bool) (how : RulesHow) (names : List (List ℕ)) (folder : Folder) (told : PathsReport) : Type 0 where
  pub faulty : Bool
  pub found : AreFolderRulesTold form how (by_parts folder) (policy_in folder) (origins_in folder) names (left_out_in form verbose folder) told.report.text faulty told.undecided
  pub noted : told.report.notes ≡ left_out_note folder
  pub counted : told.report.failed ≡ failed_by (not faulty)

-- a folder by the parts of what is loaded of it
abbrev pub seen_loaded : LoadedFolder → FolderParts
seen_loaded loaded = record {
  below = below (seen_folder loaded.folder.now);
  parts = set_parts loaded.policy.manager.machine.now loaded.policy.origins.items;
}

-- This is a folder on disk, with all that lies below it, by a language.
pub record AreRulesChecked (form : Form) (verbose : Bool) (language : Language) (folders : ToldFolders) (known : Known) (check : CheckAsked) (how : RulesHow) (told : PathsReport) : Type 0 where
  pub files : List File
  pub unread : List (Option UnreadFault)
  pub below : AreBelow folders known check.base files unread
  pub top : List TopFile
  pub loaded : AreTop folders check.base (tried_names (names_of files) unread) top
  pub checked : AreRulesIn form verbose how check.names (folder_at language check.base files unread top) told

-- The command may end with this fault: its folder can't be read.
abbrev pub IsEndOfRules : ToldFolders → CheckAsked → Fault → Type 0
IsEndOfRules folders check fault = IsOfFolder folders check.base fault
