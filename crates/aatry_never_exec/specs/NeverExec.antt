-- Whether a program ever runs unconfined that is started by those whom words name, by the policy of a folder (docs/aatry.md, "`aatry never exec`").
use Rattle.std.specs.Prelude.{◌≡◌, ℕ, Bool, true, false, not, ◌&&◌, List, [], ◌∷◌, ◌++◌, Option, codes, drop}
use Rattle.std.specs.Str.{bytes_eq}
use Rattle.aa_decide_ready.specs.Entries.{Loaded}
use Rattle.aa_decide_ready.specs.Slots.{filled}
use Rattle.aa_profile_parsing.specs.declared.language.Language.{Language}
use Rattle.aa_text_files.specs.Files.{File}
use Rattle.aa_start.specs.Gathering.{names_of}
use Rattle.aa_start.specs.Known.{Known}
use Rattle.aa_start.specs.declared.readable.UnreadFault.{UnreadFault}
use Rattle.aatry_arguments.specs.PathsWords.{AllPathsAsked}
use Rattle.aatry_claims.specs.Ends.{IsEndOfPaths}
use Rattle.aatry_claims.specs.Never.{IsPathsToldBelow, PathsReport, claim_of}
use Rattle.aatry_folder.specs.Loadings.{AreTop, TopFile}
use Rattle.aatry_folder.specs.PolicyFolders.{AreBelow, tried_names}
use Rattle.aatry_folder.specs.Reports.{failed_by}
use Rattle.aatry_folder.specs.Told.{ToldFolders}
use Rattle.aatry_folder.specs.Unread.{IsOfFolder}
use Rattle.aatry_folder.specs.declared.fault.Fault.{Fault}
use Rattle.aatry_policy.specs.Folders.{Folder, folder_at, left_out_in, left_out_note, policy_in}
use Rattle.aatry_never_exec.specs.Telling.{all_told, has_many, is_refuted}
use Rattle.aatry_reach.specs.Finding.{AreFound, Found}
use Rattle.aatry_report.specs.declared.form.Form.{Form}

-- words that ask it: the first is `exec`, which is no access, and behind it stands a name at least
abbrev pub ask_exec : List (List ℕ) → Bool
ask_exec [] = false
ask_exec (first ∷ []) = false
ask_exec (first ∷ name ∷ names) = bytes_eq first (codes "exec")

-- nothing is claimed to be always so, and the words ask it
abbrev pub asks_exec : AllPathsAsked → Bool
asks_exec paths = not paths.always && ask_exec paths.asking.words

-- the names of those who are asked about
abbrev pub whom : AllPathsAsked → List (List ℕ)
whom paths = drop 1 paths.asking.words

-- What is found of those whom words name is right, by what is loaded of a folder, and is told behind a text; and it is known whether a program of somebody runs
-- unconfined, or nobody has a name, and whether it isn't known of somebody.
pub record IsExecFoundTold (form : Form) (names : Bool) (limit : ℕ) (entries : List Loaded) (whom : List (List ℕ)) (before after : List ℕ) (refuted undecided : Bool) : Type 0 where
  pub slots : List (Option Loaded)
  pub loaded : filled slots ≡ entries
  pub found : List Found
  pub right : AreFound slots limit whom found
  pub told : after ≡ before ++ all_told form names slots found
  pub refutes : refuted ≡ is_refuted found
  pub unknown : undecided ≡ has_many found

-- Of a folder the text tells the files that are left out, at length or not, and what is found, and it is noted how many are left out. One failed where a program
-- of somebody runs unconfined, or nobody has a name.
pub record IsExecToldIn (form : Form) (verbose : Bool) (names : Bool) (limit : ℕ) (whom : List (List ℕ)) (folder : Folder) (told : PathsReport) : Type 0 where
  pub refuted : Bool
  pub found : IsExecFoundTold form names limit (policy_in folder) whom (left_out_in form verbose folder) told.report.text refuted told.undecided
  pub noted : told.report.notes ≡ left_out_note folder
  pub counted : told.report.failed ≡ failed_by (not refuted)

-- This is a folder on a disk, with all that lies below it, by a language.
pub record IsExecTold (form : Form) (verbose : Bool) (language : Language) (folders : ToldFolders) (known : Known) (asked : AllPathsAsked) (told : PathsReport) : Type 0 where
  pub files : List File
  pub unread : List (Option UnreadFault)
  pub below : AreBelow folders known asked.asking.base files unread
  pub top : List TopFile
  pub loaded : AreTop folders asked.asking.base (tried_names (names_of files) unread) top
  pub said : IsExecToldIn form verbose asked.names asked.limit (whom asked) (folder_at language asked.asking.base files unread top) told

-- What is claimed of all paths is told: that no program that somebody starts ever runs unconfined, where the words ask that, and else what they claim of an access.
abbrev pub IsTold : Bool → Form → Bool → Language → ToldFolders → Known → AllPathsAsked → PathsReport → Type 0
IsTold true form verbose language folders known asked told = IsExecTold form verbose language folders known asked told
IsTold false form verbose language folders known asked told =
    IsPathsToldBelow form verbose language folders known asked.asking.base asked.asking.words (claim_of asked.always) asked.names asked.limit told

abbrev pub IsClaimTold : Form → Bool → Language → ToldFolders → Known → AllPathsAsked → PathsReport → Type 0
IsClaimTold form verbose language folders known asked told = IsTold (asks_exec asked) form verbose language folders known asked told

-- The command may end with this fault: its folder can't be read, or the words ask nothing.
abbrev pub IsEnd : Bool → Language → ToldFolders → Known → AllPathsAsked → Fault → Type 0
IsEnd true language folders known asked fault = IsOfFolder folders asked.asking.base fault
IsEnd false language folders known asked fault = IsEndOfPaths language folders known asked.asking.base asked.asking.words fault

abbrev pub IsEndOfClaim : Language → ToldFolders → Known → AllPathsAsked → Fault → Type 0
IsEndOfClaim language folders known asked fault = IsEnd (asks_exec asked) language folders known asked fault
