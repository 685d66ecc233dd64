-- Profiles in force that have attachments, but to which no path at all is attached: of each path that one of these
-- matches another profile's attachment fits better, or as well, which attaches the path to neither.
use Rattle.std.specs.Prelude.{◌≡◌, ◌⊎◌, ℕ, ◌<◌, true, List, length, Contains, Option, Some}
use Rattle.std.specs.List.Sorted.{IsStrictlyIncreasing}
use Rattle.aa_decide.specs.Attachment.{attached}
use Rattle.aa_decide_ready.specs.Entries.{Loaded, is_in_force}
use Rattle.aa_decide_ready.specs.Slots.{entry_at, filled}
use Rattle.aa_explain_reach.specs.Starts.{MayStart}

-- a profile in force that has attachments
pub record HasAttachments (entry : Loaded) : Type 0 where
  pub in_force : is_in_force entry.state ≡ true
  pub some : 0 < length entry.profile.attachments

-- some path is attached to a profile, of those that the kernel may ask about
abbrev pub IsAttachedTo : List Loaded → Loaded → Type 0
IsAttachedTo entries entry = (path : List ℕ) × MayStart path × (attached path entries ≡ Some entry)

-- a profile in force has attachments, and no path is attached to it
pub record IsUnattached (entries : List Loaded) (entry : Loaded) : Type 0 where
  pub has : HasAttachments entry
  pub none : IsAttachedTo entries entry → ⊥

-- a slot holds one
abbrev pub HoldsUnattached : List (Option Loaded) → ℕ → Type 0
HoldsUnattached slots slot = (entry : Loaded) × (entry_at slots slot ≡ Some entry) × IsUnattached (filled slots) entry

-- These are all slots that hold one, in rising order; and to each other profile in force that has attachments some path
-- is attached.
pub record AreUnattached (slots : List (Option Loaded)) (places : List ℕ) : Type 0 where
  pub each : (slot : ℕ) → Contains places slot → HoldsUnattached slots slot
  pub all : (slot : ℕ) → HoldsUnattached slots slot → Contains places slot
  pub others : (slot : ℕ) (entry : Loaded) → entry_at slots slot ≡ Some entry → HasAttachments entry
      → Contains places slot ⊎ IsAttachedTo (filled slots) entry
  pub rise : IsStrictlyIncreasing places
