-- What is kept beside slots, so that they needn't be searched one by one.
use Rattle.std.specs.Prelude.{◌≡◌, ℕ, ◌+◌, ◌<◌, cond, List, [], ◌∷◌, ◌++◌, length, map, replicate, slice_index, Option, None, Some}
use Rattle.aa_bytes.specs.NameMaps.{number_of}
use Rattle.aa_decide_ready.specs.Entries.{Loaded}
use Rattle.aa_glob.specs.Automata.{IsAutomatonOf}
use Rattle.aa_profile_data.specs.declared.profile.Profile.{Profile}
use Rattle.aa_decide_ready.specs.SlotAttachments.{attachments_in}
use Rattle.aa_decide_ready.specs.SlotNames.{holds, slot_named}
use Rattle.aa_decide_ready.specs.declared.attachments.AttachmentIndex.{AttachmentIndex}
use Rattle.aa_decide_ready.specs.declared.names.NameIndex.{NameIndex}

-- the slot that the index has for a name
abbrev pub slot_of : List ℕ → NameIndex → Option ℕ
slot_of name index = number_of index.slots name

-- the first of two, if there is one, and else the second
abbrev pub first_of : Option ℕ → Option ℕ → Option ℕ
first_of None second = second
first_of (Some slot) second = Some slot

-- one more slot was noted, for a name that had none
abbrev pub NotesSlot : NameIndex → Option Loaded → ℕ → NameIndex → Type 0
NotesSlot old slot place new = (name : List ℕ) → slot_of name new ≡ first_of (slot_of name old) (cond (holds name slot) (Some place) None)

-- the index has for each name the first slot that holds it
abbrev pub IsNameIndexOf : NameIndex → List (Option Loaded) → Type 0
IsNameIndexOf index slots = (name : List ℕ) → slot_of name index ≡ slot_named name slots

-- the attachments of all slots, slot by slot
abbrev pub all_attachments : List (Option Loaded) → List (List ℕ)
all_attachments [] = []
all_attachments (slot ∷ slots) = attachments_in slot ++ all_attachments slots

-- the slot of each of these attachments, where the first slot has this number
abbrev pub owners_from : ℕ → List (Option Loaded) → List ℕ
owners_from number [] = []
owners_from number (slot ∷ slots) = replicate (length (attachments_in slot)) number ++ owners_from (number + 1) slots

-- an automaton of all attachments, and the slot of each
pub record IsAttachmentIndexOf (index : AttachmentIndex) (slots : List (Option Loaded)) : Type 0 where
  pub automaton : IsAutomatonOf index.automaton (all_attachments slots)
  pub owners : index.owners ≡ owners_from 0 slots

-- the profile that a slot holds, if it holds one
abbrev pub profile_in : Option Loaded → Option Profile
profile_in None = None
profile_in (Some entry) = Some entry.profile

-- two lists of slots hold the same profiles, in whatever states
abbrev pub HoldSame : List (Option Loaded) → List (Option Loaded) → Type 0
HoldSame slots others = map profile_in slots ≡ map profile_in others

-- the places of so many slots, in order
abbrev pub ArePlaces : ℕ → List ℕ → Type 0
ArePlaces count places = (length places ≡ count) × ((k : ℕ) → k < count → slice_index places k ≡ k)
