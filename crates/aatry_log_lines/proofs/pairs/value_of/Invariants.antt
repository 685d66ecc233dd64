use Rattle.std.proofs.Common.{◌≡◌, length}
use Rattle.aatry_log_lines.specs.Pairs.{value_of}
use Rattle.aatry_log_lines.proofs.pairs.value_of.Given as goal

-- no word so far is a pair of the key
abbrev pub invariant-loop-more : goal.invariant-loop-more
invariant-loop-more l = value_of l.fn.key l.rest ≡ value_of l.fn.key l.fn.line

abbrev pub decreases-loop-more : goal.decreases-loop-more
decreases-loop-more l = length l.rest
