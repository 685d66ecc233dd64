use Rattle.std.proofs.Common.{◌≡◌, ◌+◌, ◌++◌, length, map}
use Rattle.aa_explain_diff.specs.Features.{seen_feature}
use Rattle.aa_profile_data.specs.SeenRequests.{request_of}
use Rattle.aatry_shared.specs.PartFeatures.{covering_from}
use Rattle.aatry_shared.proofs.part_features.covering_features.Given as goal

-- the rules so far, with those of what is left, are all
abbrev pub invariant-loop-rest : goal.invariant-loop-rest
invariant-loop-rest l = record {
  same : map seen_feature l.features.items ++ covering_from (request_of l.request) l.number l.rest ≡ covering_from (request_of l.request) 0 l.rules;
  count : l.number + length l.rest ≡ length l.rules;
}

abbrev pub decreases-loop-rest : goal.decreases-loop-rest
decreases-loop-rest l = length l.rest
