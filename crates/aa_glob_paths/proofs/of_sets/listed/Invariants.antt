use Rattle.std.proofs.Common.{◌≡◌, ◌++◌}
use Rattle.aa_glob_paths.specs.code.Kept.{kept_outcomes}
use Rattle.aa_glob_paths.proofs.of_sets.listed.Given as goal

-- those so far, and those that are left, are all
abbrev pub invariant-loop-places : goal.invariant-loop-places
invariant-loop-places l = l.outcomes.items ++ kept_outcomes l.places-iterator ≡ kept_outcomes l.fn.kept.entries
