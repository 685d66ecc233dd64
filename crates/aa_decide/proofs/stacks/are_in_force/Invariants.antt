use Rattle.std.proofs.Common.{◌≡◌, length}
use Rattle.aa_decide.specs.Exec.{are_in_force}
use Rattle.aa_decide_ready.specs.Slots.{filled}
use Rattle.aa_profile_data.specs.Stacks.{parts_of}
use Rattle.aa_decide.proofs.stacks.are_in_force.Given as goal

-- the rest decides
abbrev pub invariant-loop-more : goal.invariant-loop-more
invariant-loop-more l = are_in_force (parts_of l.rest) (filled l.slots) ≡ are_in_force (parts_of l.members) (filled l.slots)

abbrev pub decreases-loop-more : goal.decreases-loop-more
decreases-loop-more l = length l.rest
