use Rattle.std.proofs.Common.{◌≡◌, ◌++◌, length, map}
use Rattle.aa_decide_ready.specs.Slots.{filled}
use Rattle.aatry_policy.specs.Parts.{set_parts}
use Rattle.aatry_policy.specs.SeenProfiles.{seen_part}
use Rattle.aatry_policy.proofs.parts.slots_parts.Given as goal

-- the parts so far, with those of the slots that are left, are all
abbrev pub invariant-loop-rest : goal.invariant-loop-rest
invariant-loop-rest l = map seen_part l.parts.items ++ set_parts (filled l.rest) l.left ≡ set_parts (filled l.slots) l.origins

abbrev pub decreases-loop-rest : goal.decreases-loop-rest
decreases-loop-rest l = length l.rest
