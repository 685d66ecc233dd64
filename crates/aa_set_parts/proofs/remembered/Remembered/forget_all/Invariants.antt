use Rattle.std.proofs.Common.{◌≡◌, vec_len}
use Rattle.aa_set_parts.proofs.remembered.Remembered.forget_all.Given as goal

-- the slots hold what they held
abbrev pub invariant-loop-last : goal.invariant-loop-last
invariant-loop-last l = l.slots.items ≡ l.initial.slots.items

abbrev pub decreases-loop-last : goal.decreases-loop-last
decreases-loop-last l = vec_len l.self.askers
