use Rattle.std.proofs.Common.{◌≡◌, ◌+◌, ◌++◌, true, drop, length}
use Rattle.std.specs.List.{list_all}
use Rattle.aa_profile_data.specs.Conflicts.{profile_agrees}
use Rattle.aa_set_manager.specs.code.Places.{filling}
use Rattle.aa_set_manager.proofs.loading.filling.Given as goal

-- the parts so far, and those of the profiles that are left, are all, and the rules of these agree
abbrev pub invariant-loop-profile : goal.invariant-loop-profile
invariant-loop-profile l = (l.at + length l.profile-iterator.rest.items ≡ length l.slots)
    × (l.parts.items ++ filling l.set l.profile-iterator.rest.items (drop l.at l.slots) ≡ filling l.set l.fn.profiles.items l.slots)
    × (list_all profile_agrees l.profile-iterator.rest.items ≡ true)
