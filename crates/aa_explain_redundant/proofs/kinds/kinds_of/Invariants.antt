use Rattle.std.proofs.Common.{◌≡◌, ◌++◌, map}
use Rattle.std.specs.List.{All}
use Rattle.aa_glob_paths.specs.Laws.{paths_of}
use Rattle.aa_explain_redundant.specs.Left.{rules_among}
use Rattle.aa_explain_redundant.specs.Seen.{seen_numbered}
use Rattle.aa_explain_redundant.specs.code.Kinds.{IsKind, IsOutcomeOf, paths_of_kinds}
use Rattle.aa_explain_redundant.proofs.kinds.kinds_of.Given as goal

-- the kinds so far are those of the first outcomes; what is left are outcomes
abbrev pub invariant-loop-outcome : goal.invariant-loop-outcome
invariant-loop-outcome l = record {
  kinds : All (IsKind (map seen_numbered l.rules)) l.kinds.items;
  paths : paths_of_kinds l.kinds.items ++ paths_of l.outcome-iterator.rest.items ≡ paths_of l.fn.outcomes.items;
  outcomes : All (IsOutcomeOf (rules_among (map seen_numbered l.rules))) l.outcome-iterator.rest.items;
}
