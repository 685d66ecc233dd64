use Rattle.std.proofs.Common.{◌≡◌, ◌++◌, flat_map, length, map}
use Rattle.aatry_changes.specs.PartChanges.{new_change, seen_changes}
use Rattle.aatry_changes.proofs.part_changes.push_new_parts.Given as goal
use Rattle.aatry_policy.specs.FolderParts.{seen_folder}
use Rattle.aatry_policy.specs.SeenProfiles.{seen_part}

-- what was found so far, with what changes of the parts that are left, is all
abbrev pub invariant-loop-rest : goal.invariant-loop-rest
invariant-loop-rest l =
    let found = flat_map (new_change (seen_folder l.old)) in
    seen_changes l.found.items ++ found (map seen_part l.rest) ≡ seen_changes l.initial.found.items ++ found (map seen_part l.parts)

abbrev pub decreases-loop-rest : goal.decreases-loop-rest
decreases-loop-rest l = length l.rest
