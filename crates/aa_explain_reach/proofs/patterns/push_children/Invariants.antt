use Rattle.std.proofs.Common.{◌≡◌, ◌++◌, length}
use Rattle.aa_explain_reach.specs.Patterns.{children_patterns}
use Rattle.aa_explain_reach.proofs.patterns.push_children.Given as goal

-- the patterns so far, with those of the children that are left, are all
abbrev pub invariant-loop-rest : goal.invariant-loop-rest
invariant-loop-rest l = l.patterns.items ++ children_patterns l.rest ≡ l.initial.patterns.items ++ children_patterns l.children

abbrev pub decreases-loop-rest : goal.decreases-loop-rest
decreases-loop-rest l = length l.rest
