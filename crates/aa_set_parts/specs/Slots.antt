-- Slots of which one is filled or emptied. They represent what they hold up to the last filled one.
use Rattle.std.specs.Prelude.{ℕ, zero, suc, List, [], ◌∷◌, Option, None, Some}
use Rattle.aa_decide_ready.specs.Entries.{Loaded}

-- a slot before other slots; an empty slot before none is none
abbrev pub onto : Option Loaded → List (Option Loaded) → List (Option Loaded)
onto (Some entry) slots = Some entry ∷ slots
onto None [] = []
onto None (slot ∷ slots) = None ∷ slot ∷ slots

-- slots without the empty ones at their end: what they represent
abbrev pub trimmed : List (Option Loaded) → List (Option Loaded)
trimmed [] = []
trimmed (slot ∷ slots) = onto slot (trimmed slots)

-- what a slot holds; one past the last holds nothing
abbrev pub content_at : ℕ → List (Option Loaded) → Option Loaded
content_at slot [] = None
content_at zero (content ∷ slots) = content
content_at (suc slot) (content ∷ slots) = content_at slot slots

-- slots of which one holds another entry, or now one or none
abbrev pub with_content : ℕ → Option Loaded → List (Option Loaded) → List (Option Loaded)
with_content zero content [] = onto content []
with_content zero content (old ∷ slots) = onto content (trimmed slots)
with_content (suc slot) content [] = onto None (with_content slot content [])
with_content (suc slot) content (old ∷ slots) = onto old (with_content slot content slots)
