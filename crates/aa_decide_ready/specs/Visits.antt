-- The patterns of a profile's attachments, and how many steps and states its automata take.
use Rattle.std.specs.Prelude.{◌≡◌, ◌≤◌, ℕ, List, [], Option, None, Some, slice_get}
use Rattle.aa_profile_data.specs.Request.{Request, ForCapability, ForFile, ForSockets}
use Rattle.aa_glob.specs.Visits.{IsReadOf}
use Rattle.aa_profile_data.specs.declared.profile.Child.{Child}
use Rattle.aa_profile_data.specs.declared.profile.Profile.{Profile}
use Rattle.aa_profile_data.specs.declared.profile.Rule.{Rule}
use Rattle.aa_glob_nfa.specs.Steps.{IsCounted, most_visits}
use Rattle.aa_glob_nfa.specs.Visits.{CountsAllVisits, CountsFirstVisits}
use Rattle.aa_glob_pattern.specs.Beginnings.{HasStates, most_states}
use Rattle.aa_profile_data.specs.FileRules.{file_patterns}

-- the patterns of the attachments of a child or a hat; a missing one has none
abbrev pub child_attachments : Option Child → List (List ℕ)
child_attachments None = []
child_attachments (Some child) = child.attachments

-- the patterns of the attachments of a profile, or of its child or hat at an index
abbrev pub attachments_at : Profile → Option ℕ → List (List ℕ)
attachments_at profile None = profile.attachments
attachments_at profile (Some place) = child_attachments (slice_get profile.children place)

-- To a count were added visits of one automaton of patterns that goes over a path once, all of them or those at some first offsets: no more than one
-- of each of its states before each byte and at the end, and exactly one of each beginning that is read at an offset.
pub record AreVisitsOf (patterns : List (List ℕ)) (path : List ℕ) (old new : ℕ) : Type 0 where
  pub within : (states : ℕ) → HasStates patterns states → IsCounted 0 (most_visits path states) old new
  pub first : CountsFirstVisits (IsReadOf patterns) path old new

-- all visits were added
abbrev pub AreAllVisitsOf : List (List ℕ) → List ℕ → ℕ → ℕ → Type 0
AreAllVisitsOf patterns path old new = CountsAllVisits (IsReadOf patterns) path old new

-- how many steps a request takes by some rules, all of them or the first: one for a file goes over its path once, and any other takes none
abbrev pub AreStepsOf : List Rule → Request → ℕ → ℕ → Type 0
AreStepsOf rules (ForFile letters owned path) old new = AreVisitsOf (file_patterns rules) path old new
AreStepsOf rules (ForCapability number) old new = new ≡ old
AreStepsOf rules (ForSockets domain kind) old new = new ≡ old

-- how many steps a request takes in all
abbrev pub AreAllStepsOf : List Rule → Request → ℕ → ℕ → Type 0
AreAllStepsOf rules (ForFile letters owned path) old new = AreAllVisitsOf (file_patterns rules) path old new
AreAllStepsOf rules (ForCapability number) old new = new ≡ old
AreAllStepsOf rules (ForSockets domain kind) old new = new ≡ old

-- there are no more than two states for each byte of the file rules' patterns, and two for each of these rules
abbrev pub AreFewStates : List Rule → ℕ → Type 0
AreFewStates rules states = states ≤ most_states (file_patterns rules)
