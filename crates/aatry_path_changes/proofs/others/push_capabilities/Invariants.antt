use Rattle.std.proofs.Common.{◌≡◌, ◌++◌}
use Rattle.aa_explain_changes.specs.Sides.{seen_sides}
use Rattle.aatry_path_changes.specs.Others.{capability_changes}
use Rattle.aatry_path_changes.proofs.others.push_capabilities.Given as goal

-- those so far
abbrev pub invariant-loop-number : goal.invariant-loop-number
invariant-loop-number l = l.found.items ≡ l.initial.found.items ++ capability_changes (seen_sides l.sides) l.number
