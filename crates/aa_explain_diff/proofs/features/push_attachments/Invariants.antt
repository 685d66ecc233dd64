use Rattle.std.proofs.Common.{◌≡◌, ◌++◌, map, length}
use Rattle.aa_explain_diff.specs.Features.{OfAttachment, seen_feature}
use Rattle.aa_explain_diff.proofs.features.push_attachments.Given as goal

-- the features so far, with those that are left, are all
abbrev pub invariant-loop-rest : goal.invariant-loop-rest
invariant-loop-rest l =
    map seen_feature l.features.items ++ map OfAttachment l.rest ≡ map seen_feature l.initial.features.items ++ map OfAttachment l.patterns

abbrev pub decreases-loop-rest : goal.decreases-loop-rest
decreases-loop-rest l = length l.rest
