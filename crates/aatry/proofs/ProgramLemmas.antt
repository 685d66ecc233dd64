-- What is done is what the words ask for.
use Rattle.std.proofs.Common.{◌≡◌, ◌⊎◌, ℕ, Bool, false, true, List, [], Result, Ok, Err, IfErr, IfOk, MatchResult, OnOk, inl, inr, refl, string_bytes, subst, sym}
use Rattle.aa_profile_parsing.specs.declared.language.Language.{Language}
use Rattle.aatry_arguments.specs.Arguments.{CommandAsked, ForCheck, ForDiff, ForDiffAll, ForLog, ForPaths, ForReach, ForRules, ForSession, ForTest, ForWho, ForWhy}
use Rattle.aa_start.specs.Options.{Asked, ForHelp, ForThis, ForVersion, Nothing}
use Rattle.aatry_arguments.specs.Forms.{CallAsked}
use Rattle.aa_start.specs.Given.{IsGivenFor}
use Rattle.aatry_arguments.specs.Given.{meant_call, meant_command}
use Rattle.aa_start.specs.declared.fault.ArgumentFault.{ArgumentFault}
use Rattle.aa_start.specs.declared.fault.ArgumentFault.TheVariants.{Help, Version, Bad, Memory}
use Rattle.aatry_arguments.specs.PathsWords.{AllPathsAsked}
use Rattle.aatry_arguments.specs.declared.arguments.Call.{Call}
use Rattle.aatry_folder.specs.Reports.{Report, seen_report}
use Rattle.aatry_folder.specs.declared.report.Report.{Report as CodeReport}
use Rattle.aatry_folder.specs.declared.fault.Fault.{Fault}
use Rattle.aatry_folder.specs.declared.fault.Fault.TheVariants as fault
use Rattle.aatry_claims.specs.Never.{PathsReport, seen_paths_report}
use Rattle.aatry_claims.specs.declared.never.PathsReport.{PathsReport as CodePathsReport}
use Rattle.aatry.specs.Program.{Input, IsCommandDone, IsDone, IsDoneBy, IsFaultShown, IsKept, IsOutcomeShown, IsPathsDone, IsPathsOutcomeShown, IsReported, Output, Store}
use Rattle.aatry.specs.Questions.{IsEndOf, IsToldBelow, words_asking}
use Rattle.aatry.specs.Status.{status_of}
use Rattle.aatry.specs.declared.questions.Inquiry.{Inquiry}
use Rattle.aatry.specs.declared.questions.Inquiry.TheVariants.{Who, Why}
use Rattle.aatry_never_exec.specs.NeverExec.{IsEnd, IsEndOfClaim, asks_exec}
use Rattle.aatry_report.specs.declared.form.Form.{Form}
use Rattle.aatry_requests.specs.AskedWords.{AskNothing}
use Rattle.aatry_test.proofs.StoreLemmas.{Replaces-none}
use Rattle.aatry_test.specs.Stores.{Replaces}
use Rattle.aatry_folder.specs.Told.{ToldFolders}
use Rattle.aa_start.specs.Known.{Known}

-- a command that came to something is done, if that is shown, and one that a fault ended, if that is reported
pub command_done : (Tells : Report → Type 0) (Ends : Fault → Type 0) (output : Output) (status : ℕ) (outcome : Result CodeReport Fault)
    → IfOk outcome (λ report. Tells (seen_report report)) → IfErr outcome Ends → IsOutcomeShown outcome output status
    → IsCommandDone Tells Ends output status
command_done Tells Ends output status (Ok report) told ends shown = inl (seen_report report, told, shown)
command_done Tells Ends output status (Err fault) told ends shown = inr (fault, ends, shown)

-- the same of a question about all paths
pub paths_done : (Tells : PathsReport → Type 0) (Ends : Fault → Type 0) (output : Output) (status : ℕ) (outcome : Result CodePathsReport Fault)
    → IfOk outcome (λ told. Tells (seen_paths_report told)) → IfErr outcome Ends → IsPathsOutcomeShown outcome output status
    → IsPathsDone Tells Ends output status
paths_done Tells Ends output status (Ok told) tells ends shown = inl (seen_paths_report told, tells, shown)
paths_done Tells Ends output status (Err fault) tells ends shown = inr (fault, ends, shown)

-- where the words of a question ask none, that is reported
pub words_told : (inquiry : Inquiry) (form : Form) (verbose : Bool) (language : Language) (folders : ToldFolders) (known : Known) (base : List ℕ) (words : List (List ℕ))
    (output : Output) (status : ℕ) → AskNothing (words_asking inquiry words) → output.after ≡ output.before → status ≡ status_of fault.BadQuestion
    → IsCommandDone (IsToldBelow inquiry form verbose language folders known base words) (IsEndOf inquiry folders base words) output status
words_told Why form verbose language folders known base words output status nothing same is = inr (fault.BadQuestion, inr (refl, nothing), (same, is))
words_told Who form verbose language folders known base words output status nothing same is = inr (fault.BadQuestion, inr (refl, nothing), (same, is))

-- and so is want of memory
pub no_memory_told : (inquiry : Inquiry) (form : Form) (verbose : Bool) (language : Language) (folders : ToldFolders) (known : Known) (base : List ℕ) (words : List (List ℕ))
    (output : Output) (status : ℕ) → output.after ≡ output.before → status ≡ status_of fault.NoMemory
    → IsCommandDone (IsToldBelow inquiry form verbose language folders known base words) (IsEndOf inquiry folders base words) output status
no_memory_told Why form verbose language folders known base words output status same is = inr (fault.NoMemory, inl tt, (same, is))
no_memory_told Who form verbose language folders known base words output status same is = inr (fault.NoMemory, inl tt, (same, is))

-- the call that is given is the one that is asked for
pub done_by_command : (folders : ToldFolders) (known : Known) (store : Store) (input : Input) (asked : Asked CallAsked) (call : Call) (output : Output)
    (status : ℕ) → IsGivenFor meant_call asked (Ok call) → IsDoneBy call.language call.form call.verbose folders known store input (meant_command call.command) output status
    → IsDone folders known store input asked output status
done_by_command folders known store input (ForThis asked) call output status given done =
    subst (λ a. IsDoneBy a.language a.form a.verbose folders known store input a.command output status) given done
done_by_command folders known store input ForHelp call output status given done = absurd given
done_by_command folders known store input ForVersion call output status given done = absurd given
done_by_command folders known store input Nothing call output status given done = absurd given

-- a session that was had to its end, or that a fault ended, is done
pub session_done : (Had : Type 0) (Broken : Fault → Type 0) (status : ℕ) (outcome : Result (Unit {0}) Fault)
    → OnOk outcome Had → IfErr outcome Broken → MatchResult outcome (λ _. status ≡ 0) (λ fault. status ≡ status_of fault)
    → (Had × (status ≡ 0)) ⊎ ((fault : Fault) × Broken fault × (status ≡ status_of fault))
session_done Had Broken status (Ok done) had broken is = inl (had, is)
session_done Had Broken status (Err fault) had broken is = inr (fault, broken, is)

-- want of memory may end a claim about all paths
pub memory_ends : (language : Language) (folders : ToldFolders) (known : Known) (asked : AllPathsAsked) → IsEndOfClaim language folders known asked fault.NoMemory
memory_ends language folders known asked = by (asks_exec asked)
  where
    by : (exec : Bool) → IsEnd exec language folders known asked fault.NoMemory
    by true = tt
    by false = inl tt

-- where no file was replaced, none was
none_replaced : (store : Store) → IsKept store → Replaces store.before store.after []
none_replaced store kept = subst (λ after. Replaces store.before after []) (sym kept) (Replaces-none store.before)

-- want of memory may keep the program from any command
no_memory_done : (language : Language) (form : Form) (verbose : Bool) (folders : ToldFolders) (known : Known) (store : Store) (input : Input) (command : CommandAsked)
    (output : Output) (status : ℕ) → IsKept store → IsReported fault.NoMemory output status → IsDoneBy language form verbose folders known store input command output status
no_memory_done language form verbose folders known store input (ForCheck check) output status kept is = (inr (fault.NoMemory, tt, is), kept)
no_memory_done language form verbose folders known store input (ForTest test) output status kept is = inr (fault.NoMemory, inl (inl tt, none_replaced store kept), is)
no_memory_done language form verbose folders known store input (ForWho asking) output status kept is = (inr (fault.NoMemory, inl tt, is), kept)
no_memory_done language form verbose folders known store input (ForWhy asking) output status kept is = (inr (fault.NoMemory, inl tt, is), kept)
no_memory_done language form verbose folders known store input (ForPaths paths) output status kept is = (inr (fault.NoMemory, memory_ends language folders known paths, is), kept)
no_memory_done language form verbose folders known store input (ForLog logs) output status kept is = (inr (fault.NoMemory, inl tt, is), kept)
no_memory_done language form verbose folders known store input (ForDiff comparison) output status kept is = (inr (fault.NoMemory, inl tt, is), kept)
no_memory_done language form verbose folders known store input (ForDiffAll comparison) output status kept is = (inr (fault.NoMemory, inl tt, is), kept)
no_memory_done language form verbose folders known store input (ForRules rules) output status kept is = (inr (fault.NoMemory, tt, is), kept)
no_memory_done language form verbose folders known store input (ForReach reach) output status kept is = (inr (fault.NoMemory, tt, is), kept)
no_memory_done language form verbose folders known store input (ForSession session) output status kept is = (inr (fault.NoMemory, inl (tt, is.0), is.1), kept)

-- where no command is given, a text is shown that was asked for, or the status tells why
pub done_by_fault : (folders : ToldFolders) (known : Known) (store : Store) (input : Input) (asked : Asked CallAsked) (told : ArgumentFault) (output : Output)
    (status : ℕ) → IsKept store → IsGivenFor meant_call asked (Err told) → IsFaultShown told output status → IsDone folders known store input asked output status
done_by_fault folders known store input (ForThis command) (Help text) output status kept given shown = absurd given
done_by_fault folders known store input (ForThis command) (Version text) output status kept given shown = absurd given
done_by_fault folders known store input (ForThis command) Bad output status kept given shown = absurd given
done_by_fault folders known store input (ForThis call) Memory output status kept given shown =
    no_memory_done call.language call.form call.verbose folders known store input call.command output status kept shown
done_by_fault folders known store input ForHelp (Help text) output status kept given shown = (inl (string_bytes text, shown), kept)
done_by_fault folders known store input ForHelp (Version text) output status kept given shown = absurd given
done_by_fault folders known store input ForHelp Bad output status kept given shown = absurd given
done_by_fault folders known store input ForHelp Memory output status kept given shown = (inr shown, kept)
done_by_fault folders known store input ForVersion (Help text) output status kept given shown = absurd given
done_by_fault folders known store input ForVersion (Version text) output status kept given shown = (inl (string_bytes text, shown), kept)
done_by_fault folders known store input ForVersion Bad output status kept given shown = absurd given
done_by_fault folders known store input ForVersion Memory output status kept given shown = (inr shown, kept)
done_by_fault folders known store input Nothing (Help text) output status kept given shown = absurd given
done_by_fault folders known store input Nothing (Version text) output status kept given shown = absurd given
done_by_fault folders known store input Nothing Bad output status kept given shown = (inl shown, kept)
done_by_fault folders known store input Nothing Memory output status kept given shown = (inr shown, kept)
