use Rattle.std.proofs.Common.{◌≡◌, length}
use Rattle.aatry_hints.specs.Colors.{unindented}
use Rattle.aatry_hints.proofs.colors.unindented.Given as goal

-- from here on it ends as from the beginning
abbrev pub invariant-loop-rest : goal.invariant-loop-rest
invariant-loop-rest l = unindented l.rest ≡ unindented l.text

abbrev pub decreases-loop-rest : goal.decreases-loop-rest
decreases-loop-rest l = length l.rest
