use Rattle.std.proofs.Common.{◌≡◌, ◌++◌, length}
use Rattle.aatry_why_lines.specs.Groups.{places_in}
use Rattle.aatry_why_lines.proofs.groups.places_in.Given as goal

-- the places so far, and those of the rest, are all
abbrev pub invariant-loop-rest : goal.invariant-loop-rest
invariant-loop-rest l = l.places.items ++ places_in l.group l.rest ≡ places_in l.group l.told

abbrev pub decreases-loop-rest : goal.decreases-loop-rest
decreases-loop-rest l = length l.rest
