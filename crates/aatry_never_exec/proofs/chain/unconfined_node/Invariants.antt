use Rattle.std.proofs.Common.{◌≡◌, ◌+◌, length}
use Rattle.aatry_never_exec.specs.Chain.{unconfined_from}
use Rattle.aatry_never_exec.proofs.chain.unconfined_node.Given as goal

-- none so far is one: the others decide
abbrev pub invariant-loop-rest : goal.invariant-loop-rest
invariant-loop-rest l = record {
  same : unconfined_from l.number l.rest ≡ unconfined_from 0 l.nodes;
  count : l.number + length l.rest ≡ length l.nodes;
}

abbrev pub decreases-loop-rest : goal.decreases-loop-rest
decreases-loop-rest l = length l.rest
