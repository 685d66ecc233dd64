use Rattle.std.proofs.Common.{◌≡◌, ◌++◌, ℕ, List}
use Rattle.std.specs.List.{All}
use Rattle.aa_glob_paths.specs.AllPaths.{IsOutcome}
use Rattle.aa_glob_paths.specs.Laws.{paths_of}
use Rattle.aa_explain_changes.specs.FileChanges.{changing_patterns}
use Rattle.aa_explain_changes.specs.Sides.{seen_sides}
use Rattle.aa_explain_changes.specs.code.Kinds.{IsKind, paths_of_kinds}
use Rattle.aa_explain_changes.proofs.kinds.kinds_of.Given as goal

-- the kinds so far are those of the first outcomes; what is left are outcomes
abbrev pub invariant-loop-outcome : goal.invariant-loop-outcome
invariant-loop-outcome l = record {
  kinds : All (IsKind (seen_sides l.sides)) l.kinds.items;
  paths : paths_of_kinds l.kinds.items ++ paths_of l.outcome-iterator.rest.items ≡ paths_of l.fn.outcomes.items;
  outcomes : (classes : List ℕ) × All (IsOutcome (changing_patterns (seen_sides l.sides)) classes) l.outcome-iterator.rest.items;
}
