-- The slots that a change of a policy set exchanges, and its parts.
use Rattle.std.specs.Prelude.{ℕ, ◌+◌, Bool, false, not, List, [], ◌∷◌, Option, None, Some}
use Rattle.aa_decide_ready.specs.Entries.{Loaded, is_in_force}
use Rattle.aa_decide_ready.specs.Slots.{entry_at}
use Rattle.aa_profile_data.specs.declared.profile.Mode.{Mode}
use Rattle.aa_profile_data.specs.declared.profile.Profile.{Profile}
use Rattle.aa_set_manager.specs.Changes.{are_there, in_force, some_are_absent, some_are_disabled}
use Rattle.aa_set_manager.specs.declared.places.FileChange.{FileChange}
use Rattle.aa_set_manager.specs.declared.places.FileChange.TheVariants as file
use Rattle.aa_set_commands.specs.Refusal.{plain}
use Rattle.aa_set_commands.specs.declared.refusal.Refusal.{Refusal}
use Rattle.aa_set_commands.specs.declared.refusal.RefusalKind.TheVariants.{Absent, Disabled, Exists}
use Rattle.aa_set_parts.specs.declared.parts.Content.TheVariants.{Whole}
use Rattle.aa_set_parts.specs.declared.parts.Part.{Part}

-- the slot for a profile: the one where its name was found, or else the next new one
abbrev pub place_for : ℕ → Option ℕ → ℕ
place_for next None = next
place_for next (Some slot) = slot

-- the next new slot after it
abbrev pub next_behind : ℕ → Option ℕ → ℕ
next_behind next None = next + 1
next_behind next (Some slot) = next

-- the slots for the profiles, by those where their names were found
abbrev pub places : ℕ → List (Option ℕ) → List ℕ
places next [] = []
places next (found ∷ more) = place_for next found ∷ places (next_behind next found) more

-- the next new slot after all of them
abbrev pub behind : ℕ → List (Option ℕ) → ℕ
behind next [] = next
behind next (found ∷ more) = behind (next_behind next found) more

-- the parts that load profiles into slots
abbrev pub filling : Option Mode → List Profile → List ℕ → List Part
filling set [] slots = []
filling set (profile ∷ profiles) [] = []
filling set (profile ∷ profiles) (slot ∷ slots) = record { slot = slot; content = Whole (Some (in_force set profile)) } ∷ filling set profiles slots

-- the parts that empty the slots that were found
abbrev pub emptying : List (Option ℕ) → List Part
emptying [] = []
emptying (None ∷ found) = emptying found
emptying (Some slot ∷ found) = record { slot = slot; content = Whole None } ∷ emptying found

-- the profile in a slot that was found is disabled
abbrev pub is_disabled_at : List (Option Loaded) → Option ℕ → Bool
is_disabled_at slots None = false
is_disabled_at slots (Some slot) = elim (entry_at slots slot) [ None ↦ false | Some entry ↦ not (is_in_force entry.state) ]

-- a change by the profiles of a file is refused
abbrev pub is_refused : FileChange → List Profile → List Loaded → Bool
is_refused file.Add profiles entries = are_there profiles entries
is_refused file.Replace profiles entries = some_are_disabled profiles entries
is_refused file.Remove profiles entries = some_are_absent profiles entries

-- the refusal of a change by the profiles of a file
abbrev pub refused_as : FileChange → Refusal
refused_as file.Add = plain Exists
refused_as file.Replace = plain Disabled
refused_as file.Remove = plain Absent
