-- What is seen of the program: its standard output and its exit status.
use Rattle.std.specs.Prelude.{◌≡◌, ◌⊎◌, ℕ, Bool, true, List, Option, Result, Ok, Err, String, Vec, drop, map, string_bytes}
use Rattle.std.specs.Io.KnownBytes.{Appends}
use Rattle.aa_set_commands.specs.Streams.{AppendsFront}
use Rattle.aa_text_files.specs.Files.{File}
use Rattle.aa_profile_parsing.specs.declared.language.Language.{Language}
use Rattle.aatry_arguments.specs.Arguments.{CommandAsked, ForCheck, ForDiff, ForDiffAll, ForLog, ForPaths, ForReach, ForRules, ForSession, ForTest, ForWho, ForWhy}
use Rattle.aa_start.specs.Options.{Asked, ForHelp, ForThis, ForVersion, Nothing}
use Rattle.aatry_arguments.specs.Forms.{CallAsked, asked_call}
use Rattle.aatry_arguments.specs.RulesWords.{RulesCheckAsked}
use Rattle.aa_start.specs.declared.fault.ArgumentFault.{ArgumentFault}
use Rattle.aa_start.specs.declared.fault.ArgumentFault.TheVariants.{Help, Version, Bad, Memory}
use Rattle.aatry_who.specs.Ends.{IsEndOfWho}
use Rattle.aatry_who.specs.Who.{IsWhoToldBelow}
use Rattle.aatry_why.specs.Ends.{IsEndOfWhy}
use Rattle.aatry_why.specs.Why.{IsWhyToldBelow}
use Rattle.aatry_check.specs.Below.{IsChecked}
use Rattle.aatry_check.specs.Ends.{IsEndOfCheck}
use Rattle.aatry_check_rules.specs.Below.{AreRulesChecked, IsEndOfRules}
use Rattle.aatry_check_rules.specs.declared.below.RulesHow.{RulesHow}
use Rattle.aatry_diff.specs.Below.{IsComparedBelow}
use Rattle.aatry_diff.specs.Ends.{IsEndOfDiff}
use Rattle.aatry_diff_paths.specs.Below.{ArePathsCompared, IsEndOfPathComparison}
use Rattle.aatry_log.specs.Below.{IsLogToldBelow}
use Rattle.aatry_log.specs.Ends.{IsEndOfLog}
use Rattle.aatry_test.specs.Below.{IsTestedAndReplaced}
use Rattle.aatry_test.specs.Ends.{IsEndOfTest}
use Rattle.aatry_folder.specs.Reports.{Report, seen_report}
use Rattle.aatry_folder.specs.declared.report.Report.{Report as CodeReport}
use Rattle.aatry_folder.specs.declared.fault.Fault.{Fault}
use Rattle.aatry_folder.specs.declared.fault.Fault.TheVariants.{BadArguments, NoMemory}
use Rattle.aatry_session_run.specs.Broken.{IsBrokenSession}
use Rattle.aatry_session_run.specs.Session.{IsSession}
use Rattle.aatry_claims.specs.Never.{PathsReport, seen_paths_report}
use Rattle.aatry_claims.specs.declared.never.PathsReport.{PathsReport as CodePathsReport}
use Rattle.aatry.specs.Status.{failure_status, paths_status, status_of}
use Rattle.aatry_never_exec.specs.NeverExec.{IsClaimTold, IsEndOfClaim}
use Rattle.aatry_reach.specs.Reach.{IsEndOfReach, IsReachTold}
use Rattle.aatry_report.specs.declared.form.Form.{Form}
use Rattle.aatry_folder.specs.Told.{ToldFolders}
use Rattle.aa_start.specs.Known.{Known}

-- standard output: what stood there before and stands there now, where that is known, and whether a write failed
pub record Output : Type 0 where
  pub before : Option (List ℕ)
  pub after : Option (List ℕ)
  pub failed : Bool

-- standard input: what is left of it, where that is known, and the prompt that is written before a line of it is read
pub record Input : Type 0 where
  pub left : Option (List ℕ)
  pub prompt : List ℕ

-- the files of the disk that were replaced, before and by now, each by its path with its bytes, where that is known
pub record Store : Type 0 where
  pub before : Option (List File)
  pub after : Option (List File)

-- none was
abbrev pub IsKept : Store → Type 0
IsKept store = store.after ≡ store.before

-- A text stands on standard output, and the status is the one that goes with it; or standard output failed, a front of the text stands there, and the
-- status tells that.
abbrev pub IsShown : List ℕ → ℕ → Output → ℕ → Type 0
IsShown text fine output status =
    (Appends output.before output.after text × (status ≡ fine))
    ⊎ ((output.failed ≡ true) × AppendsFront output.before output.after text × (status ≡ 3))

-- the status is that of a fault, and nothing was written
abbrev pub IsReported : Fault → Output → ℕ → Type 0
IsReported fault output status = (output.after ≡ output.before) × (status ≡ status_of fault)

-- What a command came to is shown: what it told stands on standard output, and the status tells whether some of it failed. Nothing is said here of
-- standard error, on which stands what is noted.
abbrev pub IsReportShown : Report → Output → ℕ → Type 0
IsReportShown report output status = IsShown report.text (failure_status report.failed) output status

-- what a command came to is shown, or why it came to nothing is reported
abbrev pub IsOutcomeShown : Result CodeReport Fault → Output → ℕ → Type 0
IsOutcomeShown (Ok report) output status = IsReportShown (seen_report report) output status
IsOutcomeShown (Err fault) output status = IsReported fault output status

-- what was asked for in the place of a command is shown, or why there is none is reported
abbrev pub IsFaultShown : ArgumentFault → Output → ℕ → Type 0
IsFaultShown (Help text) output status = IsShown (string_bytes text) 0 output status
IsFaultShown (Version text) output status = IsShown (string_bytes text) 0 output status
IsFaultShown Bad output status = IsReported BadArguments output status
IsFaultShown Memory output status = IsReported NoMemory output status

-- What a command came to is shown; or a fault that it may end with kept the program from it, and is reported.
abbrev pub IsCommandDone : (Report → Type 0) → (Fault → Type 0) → Output → ℕ → Type 0
IsCommandDone Tells Ends output status =
    ((report : Report) × Tells report × IsReportShown report output status)
    ⊎ ((fault : Fault) × Ends fault × IsReported fault output status)

-- What a question about all paths came to is shown, or why it came to nothing is reported. The status tells whether the claim is refuted, or nothing is known.
abbrev pub IsPathsShown : PathsReport → Output → ℕ → Type 0
IsPathsShown told output status = IsShown told.report.text (paths_status told.report.failed told.undecided) output status

abbrev pub IsPathsOutcomeShown : Result CodePathsReport Fault → Output → ℕ → Type 0
IsPathsOutcomeShown (Ok told) output status = IsPathsShown (seen_paths_report told) output status
IsPathsOutcomeShown (Err fault) output status = IsReported fault output status

abbrev pub IsPathsDone : (PathsReport → Type 0) → (Fault → Type 0) → Output → ℕ → Type 0
IsPathsDone Tells Ends output status =
    ((told : PathsReport) × Tells told × IsPathsShown told output status)
    ⊎ ((fault : Fault) × Ends fault × IsReported fault output status)

-- a command is done, and no file was replaced
abbrev pub IsReadingDone : (Report → Type 0) → (Fault → Type 0) → Store → Output → ℕ → Type 0
IsReadingDone Tells Ends store output status = IsCommandDone Tells Ends output status × IsKept store

-- A session over a folder was had by a language to its end, and the status is 0; or some fault ended it, a beginning of what a session writes stands
-- on standard output, and the status is that of the fault.
abbrev pub IsSessionDone : Language → ToldFolders → Known → List ℕ → Input → Output → ℕ → Type 0
IsSessionDone language folders known base input output status =
    (IsSession language folders known base input.prompt input.left output.before output.after × (status ≡ 0))
    ⊎ ((fault : Fault) × IsBrokenSession language folders known base input.prompt input.left output.before output.after fault × (status ≡ status_of fault))

-- how rules that decide nothing are looked for
abbrev pub rules_how : RulesCheckAsked → RulesHow
rules_how rules = record { included = rules.included; limit = rules.limit }

-- A command is done by a language: what it comes to is shown in a form, at length or not, of a test in lines alone; and a session is had. A test alone may
-- replace files.
abbrev pub IsDoneBy : Language → Form → Bool → ToldFolders → Known → Store → Input → CommandAsked → Output → ℕ → Type 0
IsDoneBy language form verbose folders known store input (ForCheck check) output status = IsReadingDone (IsChecked form language folders known check.base check.names) (IsEndOfCheck folders check.base) store output status
IsDoneBy language form verbose folders known store input (ForTest test) output status = IsCommandDone (IsTestedAndReplaced language folders known test.base test.paths test.accept store.before store.after) (IsEndOfTest language folders known test.base test.paths test.accept store.before store.after) output status
IsDoneBy language form verbose folders known store input (ForWho asking) output status = IsReadingDone (IsWhoToldBelow form verbose language folders known asking.base asking.words) (IsEndOfWho folders asking.base asking.words) store output status
IsDoneBy language form verbose folders known store input (ForWhy asking) output status = IsReadingDone (IsWhyToldBelow form verbose language folders known asking.base asking.words) (IsEndOfWhy folders asking.base asking.words) store output status
IsDoneBy language form verbose folders known store input (ForPaths paths) output status = IsPathsDone (IsClaimTold form verbose language folders known paths) (IsEndOfClaim language folders known paths) output status × IsKept store
IsDoneBy language form verbose folders known store input (ForLog logs) output status = IsReadingDone (IsLogToldBelow form verbose language folders known input.left logs) (IsEndOfLog folders known logs) store output status
IsDoneBy language form verbose folders known store input (ForDiff comparison) output status = IsReadingDone (IsComparedBelow form verbose language folders known comparison) (IsEndOfDiff folders known comparison) store output status
IsDoneBy language form verbose folders known store input (ForDiffAll comparison) output status = IsPathsDone (ArePathsCompared form verbose language folders known comparison) (IsEndOfPathComparison folders comparison) output status × IsKept store
IsDoneBy language form verbose folders known store input (ForRules rules) output status = IsPathsDone (AreRulesChecked form verbose language folders known rules.check (rules_how rules)) (IsEndOfRules folders rules.check) output status × IsKept store
IsDoneBy language form verbose folders known store input (ForReach reach) output status = IsPathsDone (IsReachTold form verbose language folders known reach) (IsEndOfReach folders reach) output status × IsKept store
IsDoneBy language form verbose folders known store input (ForSession session) output status = IsSessionDone language folders known session.base input output status × IsKept store

-- What is asked for is done: a command, or help or the version is shown, if memory allows; all else is reported as bad arguments.
abbrev pub IsDone : ToldFolders → Known → Store → Input → Asked CallAsked → Output → ℕ → Type 0
IsDone folders known store input (ForThis call) output status = IsDoneBy call.language call.form call.verbose folders known store input call.command output status
IsDone folders known store input ForHelp output status = (((text : List ℕ) × IsShown text 0 output status) ⊎ IsReported NoMemory output status) × IsKept store
IsDone folders known store input ForVersion output status = (((text : List ℕ) × IsShown text 0 output status) ⊎ IsReported NoMemory output status) × IsKept store
IsDone folders known store input Nothing output status = (IsReported BadArguments output status ⊎ IsReported NoMemory output status) × IsKept store

-- The words of the start ask for it, all but the first, which is the program's own name. Where they can't be had, that fault is reported.
abbrev pub IsStarted : {A B : Type 0} → ToldFolders → Known → Store → Input → Result (Vec (String A) B) Fault → Output → ℕ → Type 0
IsStarted folders known store input (Ok words) output status = IsDone folders known store input (asked_call (drop 1 (map string_bytes words.items))) output status
IsStarted folders known store input (Err fault) output status = IsReported fault output status × IsKept store

-- the files that were replaced, by those before and by now
abbrev pub store_of : Option (List File) → Option (List File) → Store
store_of before after = record { before = before; after = after }

-- the output of a stream, by what was written to it before and after, and whether it failed
abbrev pub output_of : Option (List ℕ) → Option (List ℕ) → Bool → Output
output_of before after failed = record { before = before; after = after; failed = failed }

-- the input of a stream, by what is left of it, and the prompt
abbrev pub input_of : Option (List ℕ) → List ℕ → Input
input_of left prompt = record { left = left; prompt = prompt }
