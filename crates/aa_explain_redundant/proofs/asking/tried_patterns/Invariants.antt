use Rattle.std.proofs.Common.{◌≡◌, ◌++◌, map, length}
use Rattle.aa_explain_redundant.specs.Seen.{seen_numbered}
use Rattle.aa_explain_redundant.specs.Trying.{tried_patterns}
use Rattle.aa_explain_redundant.proofs.asking.tried_patterns.Given as goal

-- the patterns so far, with those of what is left, are all
abbrev pub invariant-loop-rest : goal.invariant-loop-rest
invariant-loop-rest l = l.patterns.items ++ tried_patterns l.tried (map seen_numbered l.rest) ≡ tried_patterns l.tried (map seen_numbered l.rules)

abbrev pub decreases-loop-rest : goal.decreases-loop-rest
decreases-loop-rest l = length l.rest
