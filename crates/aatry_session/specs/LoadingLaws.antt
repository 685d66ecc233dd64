-- Definitions for the law on the loading: how far back a session goes.
use Rattle.std.specs.Prelude.{◌≡◌, ℕ, ◌+◌, ◌≤◌, Bool, true, List, [], ◌∷◌, ◌++◌, length, take, Ok}
use Rattle.std.specs.List.{AllByRecursion}
use Rattle.aa_decide_ready.specs.Entries.{Loaded}
use Rattle.aa_history.specs.Machine.{Machine, all_sets}
use Rattle.aa_profile_parsing.specs.declared.language.Language.{Language}
use Rattle.aa_set_commands.specs.Refusal.{plain}
use Rattle.aa_set_commands.specs.declared.refusal.RefusalKind.TheVariants.{NothingToUndo}
use Rattle.aa_set_manager.specs.Manager.{Managed, undone}
use Rattle.aa_text_files.specs.Files.{File}
use Rattle.aatry_folder.specs.declared.loading.Loading.{Loading}
use Rattle.aatry_session.specs.Laws.{IsInStep}
use Rattle.aatry_session.specs.Switching.{kept_switched}
use Rattle.aatry_session.specs.Turns.{IsLeft, IsLeftAdding, Kept, Told, add_outcome, begun, history_begun, turn_outcome, undoable, unplaced}
use Rattle.aatry_session_told.specs.Commands.{undoes_more}
use Rattle.aatry_session_told.specs.Refusals.{refusal_told}
use Rattle.aatry_session_told.specs.Sayings.{Command, saying_in}

-- no mark is of fewer earlier sets than so many
abbrev pub AreFrom : ℕ → List (List ℕ × ℕ) → Type 0
AreFrom number marks = AllByRecursion (λ mark. number ≤ mark.1) marks

-- A machine comes after another, as it was loaded: its first sets are those of that one, up to the set that was loaded; its set now is none before
-- this; and no mark is of one before it.
pub record StandsBehind (loaded machine : Machine (List Loaded)) : Type 0 where
  pub sets : take (length loaded.earlier + 1) (all_sets machine) ≡ loaded.earlier ++ loaded.now ∷ []
  pub within : length loaded.earlier ≤ length machine.earlier
  pub marked : AreFrom (length loaded.earlier) machine.marks

-- A session's history leaves out what a machine had done, as it was loaded, and the session's machine comes after that one.
abbrev pub IsBehind : Machine (List Loaded) → Kept → Type 0
IsBehind loaded kept = (kept.loaded ≡ length loaded.earlier) × StandsBehind loaded kept.managed.machine

-- a session marks nothing
abbrev pub IsUnmarked : Kept → Type 0
IsUnmarked kept = kept.managed.machine.marks ≡ []

-- a session begins unmarked
abbrev pub BeginsUnmarked : Type 0
BeginsUnmarked = (language : Language) (force_complain : Bool) → IsUnmarked (begun language force_complain)

-- a session stays unmarked where files are added, and their profiles changed by how they are loaded
abbrev pub AddsUnmarked : Type 0
AddsUnmarked =
    (files : List File) (base : List ℕ) (kept : Kept) (name : List ℕ) (flag : Bool)
    → IsUnmarked kept
    → IsUnmarked (add_outcome files base kept name flag).kept

abbrev pub SwitchesUnmarked : Type 0
SwitchesUnmarked = (loading : Loading) (kept : Kept) (name : List ℕ) → IsUnmarked kept → IsUnmarked (kept_switched loading kept name)

-- A history that begins with an unmarked session has its machine after that one.
abbrev pub BeginsBehind : Type 0
BeginsBehind = (kept : Kept) → IsUnmarked kept → IsBehind kept.managed.machine (history_begun kept)

-- a session that comes after a loaded machine still does after any line
abbrev pub StaysBehind : Type 0
StaysBehind =
    (loaded : Machine (List Loaded)) (files : List File) (base words : List ℕ) (kept : Kept) (line : List ℕ) (flag : Bool)
    → IsInStep kept
    → IsBehind loaded kept
    → IsBehind loaded (turn_outcome files base words kept line flag).kept

-- it still does where memory ran out at a line
abbrev pub LeavesBehind : Type 0
LeavesBehind =
    (loaded : Machine (List Loaded)) (files : List File) (before after : Kept) (line : List ℕ)
    → IsLeft files before after line
    → IsInStep before
    → IsBehind loaded before
    → IsBehind loaded after

-- it still does after a file was added by its name
abbrev pub AddsBehind : Type 0
AddsBehind =
    (loaded : Machine (List Loaded)) (files : List File) (base : List ℕ) (kept : Kept) (name : List ℕ) (flag : Bool)
    → IsInStep kept
    → IsBehind loaded kept
    → IsBehind loaded (add_outcome files base kept name flag).kept

-- it still does where memory ran out for adding a file
abbrev pub AddLeavesBehind : Type 0
AddLeavesBehind =
    (loaded : Machine (List Loaded)) (files : List File) (before after : Kept) (name : List ℕ)
    → IsLeftAdding files before after name
    → IsInStep before
    → IsBehind loaded before
    → IsBehind loaded after

-- it still does after the change of a profile by how its file is loaded
abbrev pub SwitchesBehind : Type 0
SwitchesBehind =
    (loaded : Machine (List Loaded)) (loading : Loading) (kept : Kept) (name : List ℕ)
    → IsInStep kept
    → IsBehind loaded kept
    → IsBehind loaded (kept_switched loading kept name)

-- it still does after places were forgotten
abbrev pub ForgetsBehind : Type 0
ForgetsBehind = (loaded : Machine (List Loaded)) (kept : Kept) → IsBehind loaded kept → IsBehind loaded (unplaced kept)

-- Undoing as many changes as can be undone leads to the very policy set of a machine, and to those before it.
abbrev pub UndoesTo : Machine (List Loaded) → Kept → Type 0
UndoesTo loaded kept =
    (back : Managed)
    × (undone (undoable kept.loaded kept.managed) kept.managed ≡ Ok back)
    × (back.machine.now ≡ loaded.now)
    × (back.machine.earlier ≡ loaded.earlier)

-- it leads to the policy set that was loaded
abbrev pub UndoesToTheLoaded : Type 0
UndoesToTheLoaded = (loaded : Machine (List Loaded)) (kept : Kept) → IsBehind loaded kept → UndoesTo loaded kept

-- A line that undoes more is refused, as the machine refuses one that undoes more than all, and leaves everything as it was.
abbrev pub RefusesToUndoMore : Type 0
RefusesToUndoMore =
    (files : List File) (base words : List ℕ) (kept : Kept) (line : List ℕ) (flag : Bool)
    → saying_in line ≡ Command
    → undoes_more (undoable kept.loaded kept.managed) line ≡ true
    → turn_outcome files base words kept line flag
    ≡ record { answer = Told (refusal_told kept.managed.settings.language files base (plain NothingToUndo)); kept = kept }
