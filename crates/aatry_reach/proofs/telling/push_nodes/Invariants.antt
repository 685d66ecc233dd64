use Rattle.std.proofs.Common.{◌≡◌, ◌++◌, codes, flat_map, length}
use Rattle.aatry_reach.specs.Telling.{node_told}
use Rattle.aatry_reach.proofs.telling.push_nodes.Given as goal

-- what was told so far, with what is told of those that are left, is all
abbrev pub invariant-loop-rest : goal.invariant-loop-rest
invariant-loop-rest l = l.out.items ++ flat_map (node_told l.teller.form l.slots (codes "reached") l.name l.nodes) l.rest ≡ l.initial.out.items ++ flat_map (node_told l.teller.form l.slots (codes "reached") l.name l.nodes) l.nodes

abbrev pub decreases-loop-rest : goal.decreases-loop-rest
decreases-loop-rest l = length l.rest
