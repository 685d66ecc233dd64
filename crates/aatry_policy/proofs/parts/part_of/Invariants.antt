use Rattle.std.proofs.Common.{◌≡◌, length, map}
use Rattle.aatry_policy.specs.Parts.{part_of}
use Rattle.aatry_policy.specs.SeenProfiles.{seen_part}
use Rattle.aatry_policy.proofs.parts.part_of.Given as goal

-- no part so far has the name
abbrev pub invariant-loop-rest : goal.invariant-loop-rest
invariant-loop-rest l = part_of (map seen_part l.rest) l.who ≡ part_of (map seen_part l.parts) l.who

abbrev pub decreases-loop-rest : goal.decreases-loop-rest
decreases-loop-rest l = length l.rest
