use Rattle.std.proofs.Common.{◌≡◌, ◌++◌, length}
use Rattle.aa_explain_reach.proofs.patterns.push_each.Given as goal

-- the patterns so far, with those that are left, are all
abbrev pub invariant-loop-rest : goal.invariant-loop-rest
invariant-loop-rest l = l.patterns.items ++ l.rest ≡ l.initial.patterns.items ++ l.more

abbrev pub decreases-loop-rest : goal.decreases-loop-rest
decreases-loop-rest l = length l.rest
