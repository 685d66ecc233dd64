use Rattle.std.proofs.Common.{◌≡◌, ◌++◌, length, map}
use Rattle.aa_explain_paths.specs.SeenAsked.{seen_asked}
use Rattle.aatry_claims.specs.Found.{AreAllFound, found_names, seen_found}
use Rattle.aatry_policy.specs.SeenProfiles.{seen_part}
use Rattle.aatry_claims.proofs.found.find_named.Given as goal

-- what was found so far is right, and its names, with those that are left, are all
abbrev pub invariant-loop-rest : goal.invariant-loop-rest
invariant-loop-rest l = record {
  each : AreAllFound (seen_asked l.inquiry.question) l.inquiry.limit (map seen_part l.inquiry.parts.now) (map seen_found l.found.items);
  named : found_names (map seen_found l.found.items) ++ map (λ word. word.now) l.rest ≡ map (λ word. word.now) l.whom;
}

abbrev pub decreases-loop-rest : goal.decreases-loop-rest
decreases-loop-rest l = length l.rest
