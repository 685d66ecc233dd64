use Rattle.std.proofs.Common.{◌≡◌, ◌++◌, map, length}
use Rattle.aa_explain_changes.specs.Lone.{patterns_of, seen_lone}
use Rattle.aa_explain_changes.proofs.lone.push_patterns.Given as goal

-- the patterns so far, with those of what is left, are all
abbrev pub invariant-loop-rest : goal.invariant-loop-rest
invariant-loop-rest l = l.patterns.items ++ patterns_of (map seen_lone l.rest) ≡ l.initial.patterns.items ++ patterns_of (map seen_lone l.lone)

abbrev pub decreases-loop-rest : goal.decreases-loop-rest
decreases-loop-rest l = length l.rest
