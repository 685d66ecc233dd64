use Rattle.std.proofs.Common.{◌≡◌, take}
use Rattle.aa_decide_ready.specs.SlotNames.{slots_named}
use Rattle.aa_decide_ready.proofs.slots.one_by_one.Given as goal

abbrev pub invariant-loop-profile : goal.invariant-loop-profile
invariant-loop-profile l = l.found.items ≡ slots_named (take l.profile-index l.profiles) l.slots
