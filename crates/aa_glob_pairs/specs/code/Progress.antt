-- How far the pairs have been looked at, first state by first state.
use Rattle.std.specs.Prelude.{◌≡◌, ◌⊎◌, ℕ, ◌+◌, ◌<◌, ◌≤◌, List, length, replicate, take, Some, All, slice_index_or}
use Rattle.aa_glob_pairs.specs.Clashes.{IsAtMost}
use Rattle.aa_glob_pairs.specs.Pairs.{Classed, ClashOf, Follows, MeetsAt, Met, states_of}
use Rattle.aa_glob_pairs.specs.Waiting.{Ordered, row_at, Waits}
use Rattle.aa_glob_pairs.specs.declared.meeting.Meeting.{Meeting}

-- no state was looked at
abbrev pub no_marks : ℕ → List ℕ
no_marks states = replicate states 0

-- a state was looked at with a first one
abbrev pub IsSeen : List ℕ → ℕ → ℕ → Type 0
IsSeen seen row r = slice_index_or seen r 0 ≡ row + 1

-- a pair, with the lesser state first, was looked at: all that are met of earlier first states, and those that were seen of this one
abbrev pub IsDone : Classed → List ℕ → ℕ → ℕ → ℕ → Type 0
IsDone g seen row q r = (q ≤ r) × (((q < row) × Met g q r) ⊎ ((q ≡ row) × IsSeen seen row r))

-- So many pairs of this first state were looked at, and all of earlier ones: what follows from them waits, if it isn't of an earlier one, and
-- nothing waits that isn't met. What was found is the least pattern that clashes at one of them.
pub record IsMeeting (g : Classed) (row at : ℕ) (meeting : Meeting) : Type 0 where
  pub marks : length meeting.seen.items ≡ states_of g
  pub begun : row ≡ 0 → Waits meeting.waiting 0 0
  pub sound : (q r : ℕ) → Waits meeting.waiting q r → (q ≤ r) × Met g q r
  pub looked : All (IsSeen meeting.seen.items row) (take at (row_at meeting.waiting row))
  pub unseen : (r : ℕ) → slice_index_or meeting.seen.items r 0 ≤ row + 1
  pub closed : (q r x y : ℕ) → row ≤ x → IsDone g meeting.seen.items row q r → Ordered (Follows g q r) x y → Waits meeting.waiting x y
  pub there : (k : ℕ) → meeting.found ≡ Some k → MeetsAt g k
  pub least : (q r k : ℕ) → IsDone g meeting.seen.items row q r → ClashOf g q r k ⊎ ClashOf g r q k → IsAtMost meeting.found k
