-- The report on a claim about all paths, by the policy of a folder (docs/aatry.md, "`aatry never` and `aatry always`").
use Rattle.std.specs.Prelude.{◌≡◌, ℕ, Bool, not, if◌then◌else◌, List, ◌++◌, Some, Option}
use Rattle.aa_explain_paths.specs.declared.question.Claim.{Claim}
use Rattle.aa_explain_paths.specs.declared.question.Claim.TheVariants.{Always, Never}
use Rattle.aa_profile_parsing.specs.declared.language.Language.{Language}
use Rattle.aa_text_files.specs.Files.{File}
use Rattle.aa_start.specs.Gathering.{names_of}
use Rattle.aa_start.specs.Known.{Known}
use Rattle.aa_start.specs.declared.readable.UnreadFault.{UnreadFault}
use Rattle.aatry_folder.specs.Loadings.{AreTop, TopFile}
use Rattle.aatry_folder.specs.PolicyFolders.{AreBelow, tried_names}
use Rattle.aatry_folder.specs.Reports.{Report, failed_by, seen_report}
use Rattle.aatry_folder.specs.Told.{ToldFolders}
use Rattle.aatry_policy.specs.FolderParts.{parts_in}
use Rattle.aatry_policy.specs.Folders.{Folder, below, folder_at, left_out_in, left_out_note}
use Rattle.aatry_report.specs.declared.form.Form.{Form}
use Rattle.aatry_claims.specs.Found.{AreFound, Found, asked_of, names_or}
use Rattle.aatry_claims.specs.Patterns.{asked_patterns}
use Rattle.aatry_claims.specs.Claimed.{Claimed}
use Rattle.aatry_claims.specs.Telling.{all_told, has_undecided, is_refuted}
use Rattle.aatry_claims.specs.Words.{PathWords, path_words}
use Rattle.aatry_claims.specs.declared.never.PathsReport.{PathsReport as CodeReport}

-- the claim of `always`, or of `never`
abbrev pub claim_of : Bool → Claim
claim_of always = if always then Always else Never

-- the outcome: the report, and whether the claim is undecided for a name
pub record PathsReport : Type 0 where
  pub report : Report
  pub undecided : Bool

abbrev pub seen_paths_report : CodeReport → PathsReport
seen_paths_report told = record { report = seen_report told.report; undecided = told.undecided }

-- The findings for the names that are asked about, by the folder's profiles, children and hats, are right (`IsFound`), and are appended to a text.
-- It failed where the claim is refuted.
pub record IsClaimTold (form : Form) (names : Bool) (limit : ℕ) (folder : Folder) (claimed : Claimed) (patterns : List (List ℕ)) (before after : List ℕ) (failed : ℕ) (undecided : Bool) : Type 0 where
  pub found : List Found
  pub right : AreFound (asked_of claimed.claim claimed.words patterns) limit (parts_in folder) (names_or claimed.words.whom (parts_in folder)) found
  pub told : after ≡ before ++ all_told form names (below folder) claimed found
  pub counted : failed ≡ failed_by (not (is_refuted found))
  pub unknown : undecided ≡ has_undecided found

-- The words make a question about all paths of some patterns, and a text has the files that are left out, verbose or not, and the findings.
pub record IsPathsTold (form : Form) (verbose : Bool) (claim : Claim) (names : Bool) (limit : ℕ) (folder : Folder) (words : List (List ℕ)) (told : PathsReport) : Type 0 where
  pub asked : PathWords
  pub said : path_words words ≡ Some asked
  pub patterns : List (List ℕ)
  pub meant : asked_patterns folder.language folder.files asked.pattern ≡ Some patterns
  pub claimed : IsClaimTold form names limit folder (record { claim = claim; words = asked }) patterns (left_out_in form verbose folder) told.report.text told.report.failed told.undecided
  pub noted : told.report.notes ≡ left_out_note folder

-- The files at the top of the folder, with all that lies below it, were asked by a language, and it is noted how many files are left out.
pub record IsPathsToldBelow (form : Form) (verbose : Bool) (language : Language) (folders : ToldFolders) (known : Known) (base : List ℕ) (words : List (List ℕ)) (claim : Claim) (names : Bool) (limit : ℕ) (found : PathsReport) : Type 0 where
  pub files : List File
  pub unread : List (Option UnreadFault)
  pub below : AreBelow folders known base files unread
  pub top : List TopFile
  pub loaded : AreTop folders base (tried_names (names_of files) unread) top
  pub told : IsPathsTold form verbose claim names limit (folder_at language base files unread top) words found
