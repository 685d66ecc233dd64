use Rattle.std.proofs.Common.{◌≡◌, vec_len}
use Rattle.aa_set_parts.proofs.remembered.Remembered.settle.Given as goal

-- the slots hold what they held
abbrev pub invariant-loop-self : goal.invariant-loop-self
invariant-loop-self l = l.slots.items ≡ l.initial.slots.items

abbrev pub decreases-loop-self : goal.decreases-loop-self
decreases-loop-self l = vec_len l.self.askers
