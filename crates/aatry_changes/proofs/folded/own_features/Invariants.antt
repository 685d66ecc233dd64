use Rattle.std.proofs.Common.{◌≡◌, ◌++◌, length, map}
use Rattle.aa_explain_diff.specs.Features.{seen_feature}
use Rattle.aatry_changes.specs.Folded.{own_features}
use Rattle.aatry_changes.proofs.folded.own_features.Given as goal
use Rattle.aatry_policy.specs.SeenProfiles.{seen_part}

-- those so far, with those of what is left, are all
abbrev pub invariant-loop-rest : goal.invariant-loop-rest
invariant-loop-rest l =
    let own = own_features l.sharing (seen_part l.part) l.side in
    map seen_feature l.own.items ++ own (map seen_feature l.rest) ≡ own (map seen_feature l.features)

abbrev pub decreases-loop-rest : goal.decreases-loop-rest
decreases-loop-rest l = length l.rest
