use Rattle.std.proofs.Common.{◌≡◌, length}
use Rattle.aatry_report.specs.FilePlaces.{without_slashes}
use Rattle.aatry_report.proofs.file_places.without_slashes.Given as goal

-- what is left has the same front
abbrev pub invariant-loop-last : goal.invariant-loop-last
invariant-loop-last l = without_slashes l.rest ≡ without_slashes l.path

abbrev pub decreases-loop-last : goal.decreases-loop-last
decreases-loop-last l = length l.rest
