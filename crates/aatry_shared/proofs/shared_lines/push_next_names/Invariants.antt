use Rattle.std.proofs.Common.{◌≡◌, ◌++◌, flat_map, length}
use Rattle.aatry_shared.specs.SeenSharing.{seen_names}
use Rattle.aatry_shared.specs.SharedLines.{next_name}
use Rattle.aatry_shared.proofs.shared_lines.push_next_names.Given as goal

-- the text so far, with the names that are left, is all
abbrev pub invariant-loop-rest : goal.invariant-loop-rest
invariant-loop-rest l =
    l.out.items ++ flat_map next_name (seen_names l.rest) ≡ l.initial.out.items ++ flat_map next_name (seen_names l.names)

abbrev pub decreases-loop-rest : goal.decreases-loop-rest
decreases-loop-rest l = length l.rest
