use Rattle.std.proofs.Common.{◌≡◌, ◌++◌, flat_map, length, map}
use Rattle.aatry_reach.specs.Finding.{seen_found}
use Rattle.aatry_reach.specs.Graph.{found_drawn}
use Rattle.aatry_reach.proofs.graph.push_each.Given as goal

-- what was told so far, with what is told of those that are left, is all
abbrev pub invariant-loop-rest : goal.invariant-loop-rest
invariant-loop-rest l = l.out.items ++ flat_map (found_drawn l.slots) (map seen_found l.rest) ≡ l.initial.out.items ++ flat_map (found_drawn l.slots) (map seen_found l.found)

abbrev pub decreases-loop-rest : goal.decreases-loop-rest
decreases-loop-rest l = length l.rest
