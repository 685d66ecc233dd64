use Rattle.std.proofs.Common.{◌≡◌, length}
use Rattle.aa_explain_reach.specs.code.Going.{has_node}
use Rattle.aa_explain_reach.proofs.going.has_node.Given as goal

-- none of the nodes so far is the place
abbrev pub invariant-loop-rest : goal.invariant-loop-rest
invariant-loop-rest l = has_node l.to l.rest ≡ has_node l.to l.nodes

abbrev pub decreases-loop-rest : goal.decreases-loop-rest
decreases-loop-rest l = length l.rest
