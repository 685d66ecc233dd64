-- What follows where no start is told to lead elsewhere.
use Rattle.std.specs.Prelude.{◌≡◌, ℕ, Bool, List, []}
use Rattle.aa_explain_reach.specs.Starts.{MayStart}
use Rattle.aa_explain_start_changes.specs.StartChanges.{AreStartChanges}
use Rattle.aa_explain_start_changes.specs.Starters.{Starters, lead_of}

-- the program of each path that the kernel may ask about is started to a place of the same name, alike scrubbed, in both, or
-- in neither
abbrev pub StartAlike : Starters → Type 0
StartAlike starters = (path : List ℕ) (owned : Bool) → MayStart path → lead_of starters.old owned path ≡ lead_of starters.new owned path

-- where none is told, all are alike
abbrev pub NoStartChangeIsHidden : Type 0
NoStartChangeIsHidden = (starters : Starters) → AreStartChanges starters [] → StartAlike starters
