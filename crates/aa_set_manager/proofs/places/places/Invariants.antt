use Rattle.std.proofs.Common.{◌≡◌, ◌+◌, ◌-◌, ◌≤◌, ◌++◌, drop, length}
use Rattle.aa_set_manager.specs.code.Places.{behind, places}
use Rattle.aa_set_manager.proofs.places.places.Given as goal

-- the slots so far, and those of what is left, are all
abbrev pub invariant-loop-slot : goal.invariant-loop-slot
invariant-loop-slot l = (l.next + (length l.found - l.slot-index) ≤ 18446744073709551615)
    × (l.made.items ++ places l.next (drop l.slot-index l.found) ≡ places l.initial.next l.found)
    × (behind l.next (drop l.slot-index l.found) ≡ behind l.initial.next l.found)
