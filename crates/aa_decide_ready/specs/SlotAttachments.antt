-- Slots by the attachments of the profiles in them.
use Rattle.std.specs.Prelude.{◌≡◌, ℕ, true, ◌<◌, List, [], length, Contains, Option, None, Some, slice_index_or}
use Rattle.std.specs.List.Sorted.{IsStrictlyIncreasing}
use Rattle.aa_decide_ready.specs.Entries.{Loaded}
use Rattle.aa_glob_syntax.specs.Matching.{matches}
use Rattle.aa_glob_syntax.specs.Patterns.{IsPatternAt}
use Rattle.aa_glob_syntax.specs.Reading.{items_of}

-- the attachments of the profile that a slot holds, if it holds one
abbrev pub attachments_in : Option Loaded → List (List ℕ)
attachments_in None = []
attachments_in (Some entry) = entry.profile.attachments

-- an attachment of a slot's profile, in whatever state this is, matches a path
abbrev pub Attaches : List ℕ → Option Loaded → Type 0
Attaches path slot = (place : ℕ) × (pattern : List ℕ) × IsPatternAt (attachments_in slot) place pattern × (matches (items_of pattern) path ≡ true)

-- each slot of which an attachment matches a path is among these slots, which are in rising order
pub record AreAttaching (path : List ℕ) (slots : List (Option Loaded)) (found : List ℕ) : Type 0 where
  pub rise : IsStrictlyIncreasing found
  pub within : (slot : ℕ) → Contains found slot → slot < length slots
  pub all : (slot : ℕ) → slot < length slots → Attaches path (slice_index_or slots slot None) → Contains found slot
