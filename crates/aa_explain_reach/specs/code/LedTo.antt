-- Profiles that none of some starts leads to.
use Rattle.std.specs.Prelude.{ℕ, ◌+◌, Bool, not, ◌&&◌, ◌==◌, if◌then◌else◌, List, [], ◌∷◌, ◌++◌, length, Option, None, Some}
use Rattle.aa_decide_rules.specs.declared.exec_verdict.ExecTo.TheVariants as to
use Rattle.aa_decide_ready.specs.Entries.{Loaded, is_in_force}
use Rattle.aa_explain_reach.specs.code.Telling.{has_start}
use Rattle.aa_explain_reach.specs.declared.start.Start.{Start}

-- a profile is in force and has attachments
abbrev pub has_attachments : Loaded → Bool
has_attachments entry = is_in_force entry.state && not (length entry.profile.attachments == 0)

-- one of some starts leads to the profile in a slot, and not to a child or hat of it
abbrev pub is_led_to : List Start → ℕ → Bool
is_led_to starts slot = has_start (to.Profile slot None) starts

-- a profile in a slot has attachments, but none of some starts leads to it
abbrev pub is_not_led_to : List Start → ℕ → Loaded → Bool
is_not_led_to starts slot entry = has_attachments entry && not (is_led_to starts slot)

-- the slot of such a profile
abbrev pub not_led_to_at : List Start → ℕ → Option Loaded → List ℕ
not_led_to_at starts slot None = []
not_led_to_at starts slot (Some entry) = if is_not_led_to starts slot entry then slot ∷ [] else []

-- those of some slots, of which the first has this number
abbrev pub not_led_to_from : List Start → ℕ → List (Option Loaded) → List ℕ
not_led_to_from starts slot [] = []
not_led_to_from starts slot (first ∷ slots) = not_led_to_at starts slot first ++ not_led_to_from starts (slot + 1) slots
