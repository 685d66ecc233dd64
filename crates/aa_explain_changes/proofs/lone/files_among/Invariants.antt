use Rattle.std.proofs.Common.{◌≡◌, ◌++◌, map, length}
use Rattle.aa_explain_diff.specs.Features.{seen_feature}
use Rattle.aa_explain_changes.specs.Lone.{files_among, seen_lone}
use Rattle.aa_explain_changes.proofs.lone.files_among.Given as goal

-- the rules so far, with those of what is left, are all
abbrev pub invariant-loop-rest : goal.invariant-loop-rest
invariant-loop-rest l = map seen_lone l.lone.items ++ files_among (map seen_feature l.rest) ≡ files_among (map seen_feature l.features)

abbrev pub decreases-loop-rest : goal.decreases-loop-rest
decreases-loop-rest l = length l.rest
