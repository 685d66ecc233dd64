-- Questions whose answers differ between two policy sets.
use Rattle.std.specs.Prelude.{ℕ, Bool, not, List, filter, map}
use Rattle.std.specs.Str.{bytes_eq}
use Rattle.aa_decide_ready.specs.Entries.{Loaded}
use Rattle.aatry_diff.specs.Answers.{answer}
use Rattle.aatry_requests.specs.Tallies.{Tally}

-- a question, how often it occurred, and the answers of an old and a new policy set
pub record Difference : Type 0 where
  pub tally : Tally
  pub before : List ℕ
  pub after : List ℕ

-- the answers of the old and the new policy set to a question differ
abbrev pub differs : List Loaded → List Loaded → Tally → Bool
differs old new tally = not (bytes_eq (answer old tally.question) (answer new tally.question))

-- the questions whose answers differ, in order
abbrev pub differing : List Loaded → List Loaded → List Tally → List Tally
differing old new tallies = filter (differs old new) tallies

-- a question with both answers
abbrev pub difference_of : List Loaded → List Loaded → Tally → Difference
difference_of old new tally = record { tally = tally; before = answer old tally.question; after = answer new tally.question }

-- the questions whose answers differ, in order, each with both answers
abbrev pub differences : List Loaded → List Loaded → List Tally → List Difference
differences old new tallies = map (difference_of old new) (differing old new tallies)
