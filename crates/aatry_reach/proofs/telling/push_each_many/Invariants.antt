use Rattle.std.proofs.Common.{◌≡◌, ◌++◌, flat_map, length}
use Rattle.aatry_reach.specs.Telling.{many_told}
use Rattle.aatry_reach.proofs.telling.push_each_many.Given as goal

-- what was told so far, with what is told of those that are left, is all
abbrev pub invariant-loop-rest : goal.invariant-loop-rest
invariant-loop-rest l = l.out.items ++ flat_map (many_told l.teller.form l.slots l.name l.nodes) l.rest ≡ l.initial.out.items ++ flat_map (many_told l.teller.form l.slots l.name l.nodes) l.unknown

abbrev pub decreases-loop-rest : goal.decreases-loop-rest
decreases-loop-rest l = length l.rest
