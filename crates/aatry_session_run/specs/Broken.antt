-- What is written of a session over a folder of policy that a fault ends: a prefix of what a session writes.
use Rattle.std.specs.Prelude.{◌≡◌, ◌⊎◌, ℕ, Bool, true, List, Option, length}
use Rattle.std.specs.Io.KnownBytes.{Appends}
use Rattle.aa_profile_parsing.specs.declared.language.Language.{Language}
use Rattle.aa_set_commands.specs.Streams.{AppendsFront}
use Rattle.aatry_folder.specs.Unread.{IsOfFolder}
use Rattle.aatry_folder.specs.declared.fault.Fault.{Fault}
use Rattle.aatry_folder.specs.declared.fault.Fault.TheVariants.{NoMemory, Read, Write}
use Rattle.aatry_logs.specs.OpenedInputs.{GivesLine, most_lines}
use Rattle.aatry_session_run.specs.Session.{Answers, IsLoaded, IsTurn, Standing, State, at_first_line}
use Rattle.aatry_folder.specs.Told.{ToldFolders}
use Rattle.aa_start.specs.Known.{Known}

-- The prompt was written, the next line of the input was answered, and a prefix of the answer's text was written.
abbrev pub IsToldInPart : ToldFolders → Known → List ℕ → List ℕ → Standing → (after : Option (List ℕ)) → Type 0
IsToldInPart folders known base prompt before after =
    (line text : List ℕ) × (prompted left : Option (List ℕ)) × (waits : List ℕ) × (state : State) × (goes : Bool)
    × Appends before.written prompted prompt
    × GivesLine before.left left before.waits waits line true
    × IsTurn folders known base before.state line state text goes
    × AppendsFront prompted after text

-- A fault ended a step: the prompt was written, and then no line could be read, or memory ran out over its answer; or the prompt was written in
-- part, or the answer's text.
abbrev pub IsBrokenStep : ToldFolders → Known → List ℕ → List ℕ → Standing → (after : Option (List ℕ)) → Fault → Type 0
IsBrokenStep folders known base prompt before after Read = Appends before.written after prompt
IsBrokenStep folders known base prompt before after NoMemory = Appends before.written after prompt
IsBrokenStep folders known base prompt before after Write =
    AppendsFront before.written after prompt ⊎ IsToldInPart folders known base prompt before after
IsBrokenStep folders known base prompt before after fault = ⊥

-- Lines were answered one after the other, and then a fault ended the next step; or they were as many as a session answers at most.
abbrev pub IsBrokenRun : ToldFolders → Known → List ℕ → List ℕ → Standing → (after : Option (List ℕ)) → Fault → Type 0
IsBrokenRun folders known base prompt first after fault =
    (lines : List (List ℕ)) × (before : Standing) × Answers folders known base prompt first lines before
    × (IsBrokenStep folders known base prompt before after fault
    ⊎ ((length lines ≡ most_lines) × (after ≡ before.written) × (fault ≡ Read)))

-- A fault ended a session over a folder: nothing was written, since the folder couldn't be loaded; or a prefix of the report on that; or all of
-- that, and then the lines of the input were answered until the fault occurred.
abbrev pub IsBrokenSession : Language → ToldFolders → Known → (base prompt : List ℕ) → (left before after : Option (List ℕ)) → Fault → Type 0
IsBrokenSession language folders known base prompt left before after fault =
    (IsOfFolder folders base fault × (after ≡ before))
    ⊎ ((state : State) × (text : List ℕ) × IsLoaded language folders known base state text
    × (((fault ≡ Write) × AppendsFront before after text)
    ⊎ ((written : Option (List ℕ)) × Appends before written text
    × IsBrokenRun folders known base prompt (at_first_line left written state) after fault)))
