-- Which states matter where some patterns are wanted: those after which one of them may end.
use Rattle.std.specs.Prelude.{◌≡◌, ℕ, ◌<◌, Bool, true, false, ◌==◌, if◌then◌else◌, List, length}
use Rattle.aa_glob_nfa.specs.Graphs.{EndsAt, Graph}
use Rattle.aa_glob_pairs.specs.Graphs.{class_at}
use Rattle.aa_glob_pairs.specs.declared.below.Below.{Below}
use Rattle.aa_glob_pairs.specs.declared.below.Below.TheVariants.{Nothing, One, Several}
use Rattle.aa_glob_paths.specs.Reachable.{matters}

-- the class of the patterns that are wanted
abbrev pub wanted_class : ℕ
wanted_class = 1

-- the class of a pattern, where all that aren't wanted have one class
abbrev pub wanted_or_other : ℕ → ℕ
wanted_or_other class = if class == wanted_class then wanted_class else 0

-- a pattern that is wanted may end at or after a state
abbrev pub has_wanted : Below → Bool
has_wanted Nothing = false
has_wanted (One own) = own == wanted_class
has_wanted Several = true

-- a state matters where a pattern that is wanted ends
abbrev pub MarksWanted : Graph → List ℕ → List Bool → Type 0
MarksWanted g classes wanted = (q p : ℕ) → q < length g.entries → EndsAt g q p → class_at classes p ≡ wanted_class → matters wanted q ≡ true
