use Rattle.std.proofs.Common.{◌≡◌, ◌+◌, ◌++◌, length, map, option_map}
use Rattle.aatry_policy.specs.Parts.{child_parts}
use Rattle.aatry_policy.specs.SeenProfiles.{seen_part}
use Rattle.aatry_policy.proofs.parts.push_children.Given as goal

-- the parts so far, with those of what is left, are all; and the first of these stands at the place
abbrev pub invariant-loop-rest : goal.invariant-loop-rest
invariant-loop-rest l = record {
  all : map seen_part l.parts.items ++ child_parts (option_map (λ origin. origin.now) l.origin) l.entry l.place l.rest
      ≡ map seen_part l.initial.parts.items ++ child_parts (option_map (λ origin. origin.now) l.origin) l.entry 0 l.children;
  there : l.place + length l.rest ≡ length l.children;
}

abbrev pub decreases-loop-rest : goal.decreases-loop-rest
decreases-loop-rest l = length l.rest
