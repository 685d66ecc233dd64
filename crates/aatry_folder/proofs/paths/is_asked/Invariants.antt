use Rattle.std.proofs.Common.{◌≡◌, length}
use Rattle.aatry_folder.specs.SeenPaths.{lent_paths}
use Rattle.aatry_folder.specs.WholeNames.{is_asked}
use Rattle.aatry_folder.proofs.paths.is_asked.Given as goal

-- those that are left ask for it where one of all does
abbrev pub invariant-loop-rest : goal.invariant-loop-rest
invariant-loop-rest l = is_asked (lent_paths l.rest) l.path ≡ is_asked (lent_paths l.asked) l.path

abbrev pub decreases-loop-rest : goal.decreases-loop-rest
decreases-loop-rest l = length l.rest
