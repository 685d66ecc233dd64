use Rattle.std.proofs.Common.{◌≡◌, length}
use Rattle.aatry_folder.specs.Asked.{holds}
use Rattle.aatry_folder.proofs.asked.holds.Given as goal

-- what is left holds it where all does
abbrev pub invariant-loop-rest : goal.invariant-loop-rest
invariant-loop-rest l = holds l.front l.rest ≡ holds l.front l.text

abbrev pub decreases-loop-rest : goal.decreases-loop-rest
decreases-loop-rest l = length l.rest
