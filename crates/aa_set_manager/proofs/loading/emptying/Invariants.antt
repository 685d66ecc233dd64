use Rattle.std.proofs.Common.{◌≡◌, ◌++◌, drop}
use Rattle.aa_set_manager.specs.code.Places.{emptying}
use Rattle.aa_set_manager.proofs.loading.emptying.Given as goal

-- the parts so far, and those of the slots that are left, are all
abbrev pub invariant-loop-slot : goal.invariant-loop-slot
invariant-loop-slot l = l.parts.items ++ emptying (drop l.slot-index l.found) ≡ emptying l.found
