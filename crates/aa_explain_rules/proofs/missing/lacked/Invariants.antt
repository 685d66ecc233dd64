use Rattle.std.proofs.Common.{◌≡◌, length}
use Rattle.aa_profile_data.specs.SeenRequests.{request_of}
use Rattle.aa_profile_data.specs.Picked.{picked}
use Rattle.aa_decide_rules.specs.Verdict.{allows, denied, denies, granted, with_covered}
use Rattle.aa_explain_rules.proofs.missing.lacked.Given as goal

-- what the rules so far cover and what the others do is what all do
abbrev pub invariant-loop-rest : goal.invariant-loop-rest
invariant-loop-rest l = let request = request_of l.request in record {
  denied : with_covered request denies l.denied.0 (picked l.rules l.rest) ≡ denied request (picked l.rules l.places);
  granted : with_covered request allows l.granted.0 (picked l.rules l.rest) ≡ granted request (picked l.rules l.places);
}

abbrev pub decreases-loop-rest : goal.decreases-loop-rest
decreases-loop-rest l = length l.rest
