use Rattle.std.proofs.Common.{◌≡◌, ◌++◌, length, map, string_bytes}
use Rattle.aatry_folder.specs.SeenPaths.{lent_paths}
use Rattle.aatry_folder.specs.WholeNames.{asked_paths}
use Rattle.aatry_folder.proofs.paths.asked_paths.Given as goal

-- the paths so far, with those of the names that are left, are all
abbrev pub invariant-loop-rest : goal.invariant-loop-rest
invariant-loop-rest l =
    let paths = asked_paths (lent_paths l.asked) l.front in
    map string_bytes l.paths.items ++ paths (map string_bytes l.rest) ≡ paths (map string_bytes l.names)

abbrev pub decreases-loop-rest : goal.decreases-loop-rest
decreases-loop-rest l = length l.rest
