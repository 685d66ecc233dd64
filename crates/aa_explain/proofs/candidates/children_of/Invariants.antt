use Rattle.std.proofs.Common.{◌≡◌, ◌+◌, ◌++◌, length}
use Rattle.aa_explain.specs.Candidates.{children_from, seen_candidates}
use Rattle.aa_explain.proofs.candidates.children_of.Given as goal

-- those so far, and those of the rest, are all
abbrev pub invariant-loop-rest : goal.invariant-loop-rest
invariant-loop-rest l = record {
  same : seen_candidates l.found.items ++ children_from l.entry l.place l.rest ≡ children_from l.entry 0 l.children;
  count : l.place + length l.rest ≡ length l.children;
}

abbrev pub decreases-loop-rest : goal.decreases-loop-rest
decreases-loop-rest l = length l.rest
