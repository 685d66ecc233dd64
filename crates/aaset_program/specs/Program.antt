-- What is seen of the program: its streams and its exit status.
use Rattle.std.specs.Prelude.{◌≡◌, ◌+◌, ◌==◌, ◌⊎◌, ℕ, false, true, List, ◌++◌, Result, Ok, Err, codes, string_bytes, if◌then◌else◌}
use Rattle.std.specs.Io.KnownBytes.{Appends, IsAtEnd}
use Rattle.aa_set.specs.Limits.{most_reads}
use Rattle.aa_set_manager.specs.Manager.{Managed, new_manager_in}
use Rattle.aa_set.specs.Run.{HasGiven, HoldsOfRead, IsAnsweredSoFar, IsFrontAnswered, IsLeftAnswered}
use Rattle.aa_set.specs.declared.session.RunFault.{RunFault}
use Rattle.aa_set.specs.declared.session.RunFault.TheVariants as run
use Rattle.aa_set.specs.declared.session.Summary.{Summary}
use Rattle.aaset_program.specs.Fault.{fault_of_run, status_of, text_of}
use Rattle.aaset_program.specs.declared.fault.Fault.{Fault}
use Rattle.aaset_program.specs.declared.fault.Fault.TheVariants.{Write}
use Rattle.aaset_program.specs.declared.stop.Stop.{Stop}
use Rattle.aaset_program.specs.declared.stop.Stop.TheVariants.{Failed, Shown}
use Rattle.aaset_program.specs.Streams.{IsUnread, IsUnwritten, IsWritten, Reads, Writes}
use Rattle.aaset_program.specs.declared.ready.Ready.{Ready}

-- a text on a line of its own
abbrev pub line_of : List ℕ → List ℕ
line_of text = text ++ codes "\n"

-- a fault is reported on standard error, on a line of its own, and the status is that of the fault
pub record IsReported (fault : Fault) (errors : Writes) (status : ℕ) : Type 0 where
  pub line : IsWritten (line_of (text_of fault)) errors
  pub by_status : status ≡ status_of fault

-- a text is on standard output, and nothing else was reported
pub record IsWhole (text : List ℕ) (output errors : Writes) (status : ℕ) : Type 0 where
  pub text_written : Appends output.before output.after text
  pub silent : IsUnwritten errors
  pub fine : status ≡ 0

-- a text is written, or standard output failed, and that is reported
abbrev pub IsShown : List ℕ → Writes → Writes → ℕ → Type 0
IsShown text output errors status = IsWhole text output errors status ⊎ ((output.failed ≡ true) × IsReported Write errors status)

-- the manager that a run begins with: of no profile, by the language and in the mode that are ready
abbrev pub begun : Ready → Managed
begun ready = new_manager_in ready.language ready.force_complain

-- All commands of standard input were answered, by the machine that keeps whole policy sets, over the files, by the language and in the mode that
-- are ready. The status shows whether some command was refused.
pub record AreAnswered (ready : Ready) (input : Reads) (output errors : Writes) (status : ℕ) : Type 0 where
  pub summary : Summary
  pub answered : IsLeftAnswered ready.files (begun ready) input.before output.before output.after summary
  pub ended : IsAtEnd input.after
  pub seen : input.ended_after ≡ true
  pub whole : (input.failed ≡ false) × (output.failed ≡ false)
  pub silent : IsUnwritten errors
  pub by_refusals : status ≡ (if summary.refused == 0 then 0 else 1)

-- there were as many reads as a run makes, none at the end, and each gave at least one byte
pub record IsEndless (input : Reads) : Type 0 where
  pub all_made : input.reads_after ≡ input.reads_before + most_reads
  pub going : input.ended_after ≡ input.ended_before
  pub given : HasGiven most_reads input.before input.after

-- the cause of a fault of a run
abbrev pub IsCause : RunFault → Reads → Writes → Type 0
IsCause run.Read input output = (input.failed ≡ true) ⊎ IsEndless input
IsCause run.Write input output = output.failed ≡ true
IsCause run.Memory input output = IsUnread input × IsUnwritten output

-- What is on standard output after a fault: the replies to the whole lines that were read, a prefix of the replies to what was read, or nothing.
abbrev pub StandsAfter : RunFault → Ready → Reads → Writes → Type 0
StandsAfter run.Read ready input output = HoldsOfRead input.before input.after (IsAnsweredSoFar ready.files (begun ready) output.before output.after)
StandsAfter run.Write ready input output = HoldsOfRead input.before input.after (IsFrontAnswered ready.files (begun ready) output.before output.after)
StandsAfter run.Memory ready input output = IsUnwritten output

-- a fault ended the run, and is reported
pub record IsBroken (ready : Ready) (input : Reads) (output errors : Writes) (status : ℕ) : Type 0 where
  pub fault : RunFault
  pub cause : IsCause fault input output
  pub stands : StandsAfter fault ready input output
  pub reported : IsReported (fault_of_run fault) errors status

-- a run over what is ready
abbrev pub IsRun : Ready → Reads → Writes → Writes → ℕ → Type 0
IsRun ready input output errors status = AreAnswered ready input output errors status ⊎ IsBroken ready input output errors status

-- What is done with what was prepared: commands are answered, a text is written, or a fault is reported, and then nothing was read or answered.
abbrev pub IsPerformed : Result Ready Stop → Reads → Writes → Writes → ℕ → Type 0
IsPerformed (Ok ready) input output errors status = IsRun ready input output errors status
IsPerformed (Err (Shown text)) input output errors status = IsUnread input × IsShown (string_bytes text) output errors status
IsPerformed (Err (Failed fault)) input output errors status = IsUnread input × IsUnwritten output × IsReported fault errors status
