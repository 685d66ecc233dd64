use Rattle.std.proofs.Common.{◌≡◌, ◌++◌, length, map}
use Rattle.aatry_policy.specs.SeenProfiles.{seen_part}
use Rattle.aatry_why.specs.Meant.{names_of}
use Rattle.aatry_why.proofs.meant.push_names.Given as goal

-- the names so far, with those of the parts that are left, are all
abbrev pub invariant-loop-rest : goal.invariant-loop-rest
invariant-loop-rest l =
    map (λ name. name.now) l.names.items ++ names_of (map seen_part l.rest) ≡ map (λ name. name.now) l.initial.names.items ++ names_of (map seen_part l.parts)

abbrev pub decreases-loop-rest : goal.decreases-loop-rest
decreases-loop-rest l = length l.rest
