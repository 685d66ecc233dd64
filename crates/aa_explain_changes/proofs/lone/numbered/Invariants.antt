use Rattle.std.proofs.Common.{◌≡◌, ◌++◌, ◌+◌, map, length}
use Rattle.aa_explain_diff.specs.Features.{rules_from, seen_feature}
use Rattle.aa_explain_changes.proofs.lone.numbered.Given as goal

-- the features so far, with the rules that are left, are all
abbrev pub invariant-loop-rest : goal.invariant-loop-rest
invariant-loop-rest l = record {
  same : map seen_feature l.features.items ++ rules_from l.number l.rest ≡ rules_from 0 l.rules;
  count : l.number + length l.rest ≡ length l.rules;
}

abbrev pub decreases-loop-rest : goal.decreases-loop-rest
decreases-loop-rest l = length l.rest
