use Rattle.std.proofs.Common.{◌≡◌, ◌≤◌, ◌-◌, vec_len}
use Rattle.aa_set_parts.specs.Slots.{trimmed}
use Rattle.aa_set_parts.proofs.slots.grow.Given as goal

abbrev pub invariant-loop-slots : goal.invariant-loop-slots
invariant-loop-slots l = (trimmed l.slots.items ≡ trimmed l.initial.slots.items) × (vec_len l.initial.slots ≤ vec_len l.slots)

abbrev pub decreases-loop-slots : goal.decreases-loop-slots
decreases-loop-slots l = l.many - vec_len l.slots
