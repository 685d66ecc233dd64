use Rattle.std.proofs.Common.{◌≡◌, ◌≤◌, length, take}
use Rattle.aa_set_parts.specs.Slots.{trimmed}
use Rattle.aa_set_parts.proofs.slots.end_of.Given as goal

-- all slots behind are empty
abbrev pub invariant-loop-end : goal.invariant-loop-end
invariant-loop-end l = (l.end ≤ length l.slots) × (trimmed (take l.end l.slots) ≡ trimmed l.slots)

abbrev pub decreases-loop-end : goal.decreases-loop-end
decreases-loop-end l = l.end
