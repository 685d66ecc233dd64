-- What a session over a folder of policy does.
use Rattle.std.specs.Prelude.{◌≡◌, ◌⊎◌, ℕ, Bool, true, false, if◌then◌else◌, List, [], ◌∷◌, ◌++◌, Option, codes}
use Rattle.std.specs.Io.KnownBytes.{Appends}
use Rattle.std.specs.Str.{bytes_eq}
use Rattle.aa_bytes.specs.Bytes.{line_feed}
use Rattle.aa_profile.specs.FileReading.{file_profiles_in}
use Rattle.aa_profile_data.specs.FullNames.{full_name}
use Rattle.aa_profile_parsing.specs.declared.language.Language.{Language}
use Rattle.aa_set_answers.specs.Answers.{who_asks}
use Rattle.aa_set_commands.specs.Question.{Question}
use Rattle.aa_text_files.specs.Files.{File}
use Rattle.aa_start.specs.Gathering.{names_of}
use Rattle.aa_start.specs.declared.readable.UnreadFault.{UnreadFault}
use Rattle.aatry_why.specs.Why.{answered_text}
use Rattle.aatry_why.specs.Sources.{Sources}
use Rattle.aatry_folder.specs.Loadings.{AreTop, TopFile}
use Rattle.aatry_folder.specs.PolicyFolders.{AreBelow, tried_names}
use Rattle.aatry_folder.specs.Unread.{IsOfFolder}
use Rattle.aatry_session_run.specs.Faults.{told_line}
use Rattle.aatry_session_run.specs.Notes.{IsNoted}
use Rattle.aatry_session_run.specs.Status.{IsStatus}
use Rattle.aatry_folder.specs.declared.fault.Fault.{Fault}
use Rattle.aatry_logs.specs.OpenedInputs.{GivesLine}
use Rattle.aatry_report.specs.Shown.{shown}
use Rattle.aatry_report.specs.declared.form.Form.TheVariants.{Lines}
use Rattle.aatry_session_told.specs.History.{ok_line}
use Rattle.aatry_policy.specs.Policies.{profile_names}
use Rattle.aatry_session.specs.Switching.{all_switched}
use Rattle.aatry_session.specs.Turns.{Answer, Kept, Told, Ended, Anew, Compared, Widened, Asked}
use Rattle.aatry_session.specs.Turns.{add_outcome, begun, history_begun, history_widened, origin_of, turn_outcome, unplaced}
use Rattle.aatry_session_told.specs.Commands.{loaded_file}
use Rattle.aatry_folder.specs.Told.{ToldFolders}
use Rattle.aa_start.specs.Known.{Known}

-- a session over a folder of policy: everything below it, as it was read last, and the session itself
pub record State : Type 0 where
  pub files : List File
  pub kept : Kept

-- the line of a file that is left out
abbrev pub left_out_line : List ℕ → List ℕ
left_out_line name = codes "left out: " ++ shown name ++ line_feed ∷ []

-- a file was taken, by the reply
abbrev pub is_taken : Answer → Bool
is_taken (Told text) = bytes_eq text ok_line
is_taken answer = false

-- the report on a file as it is loaded: that it is left out, and why; and nothing for one that is taken
abbrev pub loading_text : List ℕ → Answer → List ℕ
loading_text name (Told text) = if bytes_eq text ok_line then [] else left_out_line name ++ text
loading_text name answer = []

-- a session after a file was added, with the change of each of its profiles where it is to be loaded in complain mode or disabled, and was taken
abbrev pub settled : Language → List File → TopFile → Bool → Kept → Kept
settled language files file taken kept =
    if taken then all_switched file.loading kept (profile_names (file_profiles_in language files file.name)) else kept

-- The profiles of a file were added by its name, as a line of the session would add them, and loaded as the file is to be, by a language; and the
-- text says whether it is left out.
abbrev pub LoadsOne : Language → List File → List ℕ → Kept → TopFile → Kept → List ℕ → Type 0
LoadsOne language files base before file after text =
    (answer : Answer) × (added : Kept) × (flag : Bool)
    × (record { answer = answer; kept = added } ≡ add_outcome files base before file.name flag)
    × (after ≡ settled language files file (is_taken answer) added)
    × (text ≡ loading_text file.name answer)

-- The profiles of each of these files were added, one after the other.
abbrev pub LoadsEach : Language → List File → List ℕ → Kept → List TopFile → Kept → List ℕ → Type 0
LoadsEach language files base before [] after text = (after ≡ before) × (text ≡ [])
LoadsEach language files base before (file ∷ top) after text =
    (next : Kept) × (first rest : List ℕ) × (text ≡ first ++ rest)
    × LoadsOne language files base before file next first × LoadsEach language files base next top after rest

-- The files were read again, which the text says: the session is the same, but knows no place in them any more. Or they couldn't be, and the text
-- has the fault that kept them from it, and everything is as it was.
abbrev pub IsReadAnew : ToldFolders → Known → List ℕ → (before after : State) → List ℕ → Type 0
IsReadAnew folders known base before after text =
    (((unread : List (Option UnreadFault)) × AreBelow folders known base after.files unread) × (after.kept ≡ unplaced before.kept) × (text ≡ ok_line))
    ⊎ ((after ≡ before) × ((fault : Fault) × IsOfFolder folders base fault × (text ≡ told_line fault)))

-- where the rules of the asker are written: in the files that were read last, and where the loaded profile was read, as far as the session knows
abbrev pub sources_of : List ℕ → State → Question → Sources
sources_of base state question = record {
  below = record { files = state.files; base = base };
  origin = origin_of state.kept (full_name (who_asks question)).profile;
}

-- the text of an answer, by the session before it and after it
abbrev pub IsTold : ToldFolders → Known → List ℕ → State → Answer → (after : State) → List ℕ → Type 0
IsTold folders known base state (Told told) after text = (after ≡ state) × (text ≡ told)
IsTold folders known base state Ended after text = (after ≡ state) × (text ≡ [])
IsTold folders known base state Anew after text = IsReadAnew folders known base state after text
IsTold folders known base state Compared after text =
    (after ≡ state) × IsStatus folders known base state.files state.kept text
IsTold folders known base state Widened after text = (after ≡ record state { kept = history_widened state.kept }) × (text ≡ ok_line)
IsTold folders known base state (Asked question) after text =
    (after ≡ state) × (text ≡ answered_text Lines (sources_of base state question) state.kept.managed.machine.now question)

-- the session goes on after an answer
abbrev pub goes_on : Answer → Bool
goes_on Ended = false
goes_on answer = true

-- A line was answered by the session's own definition: the text is that of the answer, with the note on the disk's file where it loads one, and the
-- session goes on or not.
abbrev pub IsTurn : ToldFolders → Known → List ℕ → State → List ℕ → State → List ℕ → Bool → Type 0
IsTurn folders known base before line after text goes =
    (answer : Answer) × (kept : Kept) × (flag : Bool) × (words told note : List ℕ)
    × (record { answer = answer; kept = kept } ≡ turn_outcome before.files base words before.kept line flag)
    × (goes ≡ goes_on answer)
    × IsTold folders known base (record { files = before.files; kept = kept }) answer after told
    × IsNoted known base after.files (loaded_file line) note
    × (text ≡ told ++ note)

-- How far a session has come: the input that is still to be read, the bytes of it that were read and wait, what is written so far, and its state.
pub record Standing : Type 0 where
  pub left : Option (List ℕ)
  pub waits : List ℕ
  pub written : Option (List ℕ)
  pub state : State

-- The prompt was written, the next line of the input was answered, and the answer's text was written.
abbrev pub IsStep : ToldFolders → Known → List ℕ → List ℕ → Standing → List ℕ → Standing → Bool → Type 0
IsStep folders known base prompt before line after goes =
    (text : List ℕ) × (prompted : Option (List ℕ))
    × Appends before.written prompted prompt
    × GivesLine before.left after.left before.waits after.waits line true
    × IsTurn folders known base before.state line after.state text goes
    × Appends prompted after.written text

-- These lines, the last one first, were answered one after the other, and the session went on after each.
abbrev pub Answers : ToldFolders → Known → List ℕ → List ℕ → Standing → List (List ℕ) → Standing → Type 0
Answers folders known base prompt first [] now = now ≡ first
Answers folders known base prompt first (line ∷ lines) now =
    (before : Standing) × Answers folders known base prompt first lines before × IsStep folders known base prompt before line now true

-- The session ends: a line says so, or the prompt was written and the input has no more lines.
abbrev pub IsLastStep : ToldFolders → Known → List ℕ → List ℕ → Standing → Standing → Type 0
IsLastStep folders known base prompt before after =
    ((line : List ℕ) × IsStep folders known base prompt before line after false)
    ⊎ (Appends before.written after.written prompt × ((given : List ℕ) × GivesLine before.left after.left before.waits after.waits given false))

-- The lines of the input were answered one after the other, to the end of the session.
abbrev pub IsRun : ToldFolders → Known → List ℕ → List ℕ → Standing → Standing → Type 0
IsRun folders known base prompt first last =
    (lines : List (List ℕ)) × (before : Standing)
    × Answers folders known base prompt first lines before × IsLastStep folders known base prompt before last

-- Everything below a folder was read, the profiles of the files at its top were added, as each file is to be loaded, by a language, and the text
-- reports that. The session's history begins after that.
pub record IsLoaded (language : Language) (folders : ToldFolders) (known : Known) (base : List ℕ) (state : State) (text : List ℕ) : Type 0 where
  pub unread : List (Option UnreadFault)
  pub below : AreBelow folders known base state.files unread
  pub top : List TopFile
  pub asked : AreTop folders base (tried_names (names_of state.files) unread) top
  pub loaded : Kept
  pub each : LoadsEach language state.files base (begun language false) top loaded text
  pub begins : state.kept ≡ history_begun loaded

-- how far a session has come that has read no line
abbrev pub at_first_line : Option (List ℕ) → Option (List ℕ) → State → Standing
at_first_line left written state = record { left = left; waits = []; written = written; state = state }

-- A session over a folder was run: it was loaded, the report on that was written, and then the lines of the input were answered to the session's
-- end.
pub record IsSession (language : Language) (folders : ToldFolders) (known : Known) (base prompt : List ℕ) (left before after : Option (List ℕ)) : Type 0 where
  pub state : State
  pub text : List ℕ
  pub loaded : IsLoaded language folders known base state text
  pub written : Option (List ℕ)
  pub told : Appends before written text
  pub last : Standing
  pub run : IsRun folders known base prompt (at_first_line left written state) last
  pub ended : last.written ≡ after
