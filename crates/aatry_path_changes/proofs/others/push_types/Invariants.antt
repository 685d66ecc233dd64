use Rattle.std.proofs.Common.{◌≡◌, ◌++◌}
use Rattle.aa_explain_changes.specs.Sides.{seen_sides}
use Rattle.aatry_path_changes.specs.Others.{type_changes}
use Rattle.aatry_path_changes.proofs.others.push_types.Given as goal

-- those so far
abbrev pub invariant-loop-kind : goal.invariant-loop-kind
invariant-loop-kind l = l.found.items ≡ l.initial.found.items ++ type_changes (seen_sides l.sides) l.domain l.kind
