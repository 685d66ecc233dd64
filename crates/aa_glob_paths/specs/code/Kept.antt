-- Outcomes as they are stored while they are found: paths under places, in the order in which they were inserted.
use Rattle.std.specs.Prelude.{ℕ, List, map, Vec}
use Rattle.std.specs.declared.alloc.Global.{Global}
use Rattle.aa_glob_paths.specs.declared.outcome.Outcome.{Outcome}

-- places and a path
abbrev pub Entry : Type 0
Entry = Vec ℕ Global × Vec ℕ Global

abbrev pub outcome_of : Entry → Outcome
outcome_of entry = record { places = entry.0; path = entry.1 }

abbrev pub kept_outcomes : List Entry → List Outcome
kept_outcomes entries = map outcome_of entries
