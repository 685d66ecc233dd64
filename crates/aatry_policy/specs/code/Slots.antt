-- The parts of what a slot holds, and the origins that are left after it.
use Rattle.std.specs.Prelude.{List, [], Option, None, Some}
use Rattle.aa_decide_ready.specs.Entries.{Loaded}
use Rattle.aatry_policy.specs.Parts.{Part, behind_first, first_of, profile_parts}
use Rattle.aatry_policy.specs.declared.origins.Origin.{Origin}

-- the parts of a slot, of which the first of some origins is that of the entry
abbrev pub slot_parts : Option Loaded → List Origin → List Part
slot_parts None origins = []
slot_parts (Some entry) origins = profile_parts (first_of origins) entry

-- the origins of the slots after it
abbrev pub left_behind : Option Loaded → List Origin → List Origin
left_behind None origins = origins
left_behind (Some entry) origins = behind_first origins
