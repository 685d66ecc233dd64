use Rattle.std.proofs.Common.{◌≡◌, ◌++◌, length, map}
use Rattle.aatry_path_changes.specs.Finding.{part_names}
use Rattle.aatry_policy.specs.SeenProfiles.{seen_part}
use Rattle.aatry_path_changes.proofs.names.push_part_names.Given as goal

-- those so far, with those that are left, are all
abbrev pub invariant-loop-rest : goal.invariant-loop-rest
invariant-loop-rest l =
    map (λ name. name.items) l.names.items ++ part_names (map seen_part l.rest) ≡ map (λ name. name.items) l.initial.names.items ++ part_names (map seen_part l.parts)

abbrev pub decreases-loop-rest : goal.decreases-loop-rest
decreases-loop-rest l = length l.rest
