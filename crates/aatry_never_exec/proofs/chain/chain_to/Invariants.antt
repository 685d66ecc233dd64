use Rattle.std.proofs.Common.{◌≡◌, ◌++◌, length}
use Rattle.std.specs.Prelude.{reverse}
use Rattle.aatry_never_exec.specs.Chain.{chain_to, chain_within}
use Rattle.aatry_never_exec.proofs.chain.chain_to.Given as goal

-- those so far, the last first, behind those that are left, are all
abbrev pub invariant-loop-more : goal.invariant-loop-more
invariant-loop-more l = chain_within l.more l.nodes l.from ++ reverse l.numbers.items ≡ chain_to l.nodes l.last

abbrev pub decreases-loop-more : goal.decreases-loop-more
decreases-loop-more l = length l.more
