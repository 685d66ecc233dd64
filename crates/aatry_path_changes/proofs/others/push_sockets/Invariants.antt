use Rattle.std.proofs.Common.{◌≡◌, ◌++◌}
use Rattle.aa_explain_changes.specs.Sides.{seen_sides}
use Rattle.aatry_path_changes.specs.Others.{socket_changes}
use Rattle.aatry_path_changes.proofs.others.push_sockets.Given as goal

-- those so far
abbrev pub invariant-loop-domain : goal.invariant-loop-domain
invariant-loop-domain l = l.found.items ≡ l.initial.found.items ++ socket_changes (seen_sides l.sides) l.domain
