-- Slots, each of which is empty or holds a loaded profile.
use Rattle.std.specs.Prelude.{ℕ, ◌≡◌, List, [], ◌∷◌, Option, None, Some, slice_get}
use Rattle.std.specs.Option.{option_map}
use Rattle.aa_decide_ready.specs.Entries.{Loaded}

-- the entries of the slots that are filled, in their order
abbrev pub filled : List (Option Loaded) → List Loaded
filled [] = []
filled (None ∷ slots) = filled slots
filled (Some entry ∷ slots) = entry ∷ filled slots

-- the entry in a slot, if it is there and filled
abbrev pub entry_at : List (Option Loaded) → ℕ → Option Loaded
entry_at slots slot = elim (slice_get slots slot) [ None ↦ None | Some content ↦ content ]

-- A slot, if one was found, holds this entry, if there is one; and none was found where there is none.
abbrev pub Holds : List (Option Loaded) → Option ℕ → Option Loaded → Type 0
Holds slots slot entry = option_map (slice_get slots) slot ≡ option_map (λ e. Some (Some e)) entry
