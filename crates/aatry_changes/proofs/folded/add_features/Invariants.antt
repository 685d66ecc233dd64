use Rattle.std.proofs.Common.{◌≡◌, length, map}
use Rattle.aa_explain_diff.specs.Features.{seen_feature}
use Rattle.aatry_changes.specs.Folded.{havings_of}
use Rattle.aatry_changes.proofs.folded.add_features.Given as goal
use Rattle.aatry_policy.specs.SeenProfiles.{seen_part}
use Rattle.aatry_shared.specs.Sharing.{gathered_behind}

-- the changes so far, with those that are left behind them, are all
abbrev pub invariant-loop-rest : goal.invariant-loop-rest
invariant-loop-rest l =
    let havings = havings_of (seen_part l.part) l.side in
    gathered_behind l.sharing (havings (map seen_feature l.rest)) ≡ gathered_behind l.initial.sharing (havings (map seen_feature l.features))

abbrev pub decreases-loop-rest : goal.decreases-loop-rest
decreases-loop-rest l = length l.rest
