use Rattle.std.proofs.Common.{◌≡◌, ◌+◌, ◌++◌, map, length}
use Rattle.aa_explain_diff.specs.Features.{lacking, seen_feature}
use Rattle.aa_explain_diff.proofs.comparing.lacking.Given as goal

-- the features so far, with those of what is left, are all
abbrev pub invariant-loop-rest : goal.invariant-loop-rest
invariant-loop-rest l = record {
  same : map seen_feature l.found.items ++ lacking (map seen_feature l.others) (map seen_feature l.rest)
      ≡ lacking (map seen_feature l.others) (map seen_feature l.features);
  count : l.place + length l.rest ≡ length l.features;
}

abbrev pub decreases-loop-rest : goal.decreases-loop-rest
decreases-loop-rest l = length l.rest
