use Rattle.std.proofs.Common.{◌≡◌, map, take}
use Rattle.aa_explain_diff.specs.Features.{Feature, has_feature, seen_feature}
use Rattle.aa_explain_diff.specs.code.Keys.{is_among}
use Rattle.aa_explain_diff.proofs.comparing.set_of.Given as goal

-- a feature is among the keys so far where it is one of the features so far
abbrev pub invariant-loop-feature : goal.invariant-loop-feature
invariant-loop-feature l =
    (feature : Feature) → is_among l.keys.keys feature ≡ has_feature (map seen_feature (take l.feature-index l.features)) feature
