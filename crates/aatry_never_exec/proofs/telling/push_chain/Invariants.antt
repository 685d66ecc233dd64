use Rattle.std.proofs.Common.{◌≡◌, ◌++◌, length}
use Rattle.aatry_never_exec.specs.Telling.{chain_told}
use Rattle.aatry_never_exec.proofs.telling.push_chain.Given as goal

-- what was told so far, with what is told of those that are left, is all
abbrev pub invariant-loop-rest : goal.invariant-loop-rest
invariant-loop-rest l = l.out.items ++ chain_told l.teller.form l.slots l.name l.nodes l.rest ≡ l.initial.out.items ++ chain_told l.teller.form l.slots l.name l.nodes l.numbers

abbrev pub decreases-loop-rest : goal.decreases-loop-rest
decreases-loop-rest l = length l.rest
