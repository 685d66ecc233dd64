-- Parts, each of which is exchanged with a slot: for all that the slot holds, or for the state of its entry.
use Rattle.std.specs.Prelude.{ℕ, Bool, true, false, List, [], ◌∷◌, ◌++◌, Option, None, Some}
use Rattle.aa_decide_ready.specs.Entries.{Loaded, state_left, with_state}
use Rattle.aa_set_parts.specs.Slots.{content_at, trimmed, with_content}
use Rattle.aa_set_parts.specs.declared.parts.Content.{Content}
use Rattle.aa_set_parts.specs.declared.parts.Content.TheVariants.{InState, Whole}
use Rattle.aa_set_parts.specs.declared.parts.Part.{Part}

-- parts, and a number of slots that all of their slots are among
pub record Reaching : Type 0 where
  pub parts : List Part
  pub reach : ℕ

-- what a slot holds after an exchange: its entry gets a state, if it can be in it
abbrev pub put_in : Content → Option Loaded → Option Loaded
put_in (Whole content) held = content
put_in (InState state) None = None
put_in (InState state) (Some entry) = Some (with_state state entry)

-- what the part of the slot holds after the exchange
abbrev pub taken_out : Content → Option Loaded → Content
taken_out (Whole content) held = Whole held
taken_out (InState state) None = InState state
taken_out (InState state) (Some entry) = InState (state_left state entry)

-- a part exchanges a state alone
abbrev pub is_state : Part → Bool
is_state part = elim part.content [ Whole content ↦ false | InState state ↦ true ]

-- slots after the exchange of a part
abbrev pub exchanged : Part → List (Option Loaded) → List (Option Loaded)
exchanged part slots = with_content part.slot (put_in part.content (content_at part.slot slots)) slots

-- the part after its exchange
abbrev pub left : Part → List (Option Loaded) → Part
left part slots = record { slot = part.slot; content = taken_out part.content (content_at part.slot slots) }

-- slots after the exchange of parts, one after the other
abbrev pub after : List (Option Loaded) → List Part → List (Option Loaded)
after slots [] = trimmed slots
after slots (part ∷ parts) = after (exchanged part slots) parts

-- the parts that undo these, the last one first
abbrev pub back : List (Option Loaded) → List Part → List Part
back slots [] = []
back slots (part ∷ parts) = back (exchanged part slots) parts ++ left part slots ∷ []
