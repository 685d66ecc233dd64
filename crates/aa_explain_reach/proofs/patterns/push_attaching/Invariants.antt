use Rattle.std.proofs.Common.{◌≡◌, ◌++◌, length}
use Rattle.aa_decide_ready.specs.Slots.{filled}
use Rattle.aa_explain_reach.specs.Patterns.{attaching_patterns}
use Rattle.aa_explain_reach.proofs.patterns.push_attaching.Given as goal

-- the patterns so far, with those of the slots that are left, are all
abbrev pub invariant-loop-rest : goal.invariant-loop-rest
invariant-loop-rest l = l.patterns.items ++ attaching_patterns (filled l.rest) ≡ l.initial.patterns.items ++ attaching_patterns (filled l.slots)

abbrev pub decreases-loop-rest : goal.decreases-loop-rest
decreases-loop-rest l = length l.rest
