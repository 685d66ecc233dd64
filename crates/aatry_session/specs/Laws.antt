-- What holds of a session whatever its lines.
use Rattle.std.specs.Prelude.{◌≡◌, ℕ, ◌+◌, Bool, true, nat_le, List, length, Some, Ok}
use Rattle.aa_history.specs.Machine.{MarksItsSets}
use Rattle.aa_profile_parsing.specs.declared.language.Language.{Language}
use Rattle.aa_set_manager.specs.Outcomes.{command_in, line_outcome}
use Rattle.aa_set.specs.Reply.{is_refusal}
use Rattle.aa_set_commands.specs.Command.{Add, Make}
use Rattle.aa_set_commands.specs.Limits.{longest_line}
use Rattle.aa_text_files.specs.Files.{File}
use Rattle.aatry_session_told.specs.Sayings.{Command, saying_in}
use Rattle.aatry_folder.specs.declared.loading.Loading.{Loading}
use Rattle.aatry_session.specs.Switching.{kept_switched}
use Rattle.aatry_session.specs.Turns.{IsLeft, IsLeftAdding, Kept, add_outcome, begun, turn_outcome, unplaced}

-- The texts are in step with the manager: there are as many as there are changes that can be undone or redone, and of as many changes it is kept
-- where profiles were read. And each mark is of a policy set that the manager has, which going to one asks for.
pub record IsInStep (kept : Kept) : Type 0 where
  pub counted : length kept.texts ≡ length kept.managed.machine.earlier + length kept.managed.machine.later
  pub known : length kept.origins ≡ length kept.texts
  pub marked : MarksItsSets kept.managed.machine

-- a session begins in step
abbrev pub BeginsInStep : Type 0
BeginsInStep = (language : Language) (force_complain : Bool) → IsInStep (begun language force_complain)

-- any line leaves it in step
abbrev pub StaysInStep : Type 0
StaysInStep =
    (files : List File) (base words : List ℕ) (kept : Kept) (line : List ℕ) (flag : Bool)
    → IsInStep kept
    → IsInStep (turn_outcome files base words kept line flag).kept

-- a line at which memory ran out leaves it in step
abbrev pub LeavesInStep : Type 0
LeavesInStep = (files : List File) (before after : Kept) (line : List ℕ) → IsLeft files before after line → IsInStep before → IsInStep after

-- adding the profiles of a file leaves it in step
abbrev pub AddsInStep : Type 0
AddsInStep =
    (files : List File) (base : List ℕ) (kept : Kept) (name : List ℕ) (flag : Bool)
    → IsInStep kept
    → IsInStep (add_outcome files base kept name flag).kept

-- so does adding where memory ran out
abbrev pub AddLeavesInStep : Type 0
AddLeavesInStep = (files : List File) (before after : Kept) (name : List ℕ) → IsLeftAdding files before after name → IsInStep before → IsInStep after

-- the change of a profile by how its file is loaded leaves it in step
abbrev pub SwitchesInStep : Type 0
SwitchesInStep = (loading : Loading) (kept : Kept) (name : List ℕ) → IsInStep kept → IsInStep (kept_switched loading kept name)

-- forgetting the places leaves it in step
abbrev pub ForgetsInStep : Type 0
ForgetsInStep = (kept : Kept) → IsInStep kept → IsInStep (unplaced kept)

-- adding the profiles of a file does what a line does that says so
abbrev pub AddsAsLinesDo : Type 0
AddsAsLinesDo =
    (files : List File) (base words : List ℕ) (kept : Kept) (name line : List ℕ) (flag : Bool)
    → saying_in line ≡ Command
    → nat_le (length line) longest_line ≡ true
    → command_in line ≡ Ok (Some (Make (Add name)))
    → turn_outcome files base words kept line flag ≡ add_outcome files base kept name flag

-- a line that the machine refuses leaves the manager, the texts, and where profiles were read, as they were
abbrev pub RefusedTurnLeavesAll : Type 0
RefusedTurnLeavesAll =
    (files : List File) (base words : List ℕ) (kept : Kept) (line : List ℕ) (flag : Bool)
    → is_refusal (line_outcome files kept.managed line flag).reply ≡ true
    → (turn_outcome files base words kept line flag).kept ≡ kept
