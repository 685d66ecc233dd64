use Rattle.std.proofs.Common.{◌≡◌, ◌++◌, length, map}
use Rattle.aa_profile_data.specs.SeenRequests.{request_of}
use Rattle.aatry_log_rules.specs.SeenWanted.{seen_wanted}
use Rattle.aatry_log_rules.proofs.telling.requests_of.Given as goal

-- the requests so far, with those that are left, are all
abbrev pub invariant-loop-rest : goal.invariant-loop-rest
invariant-loop-rest l =
    map request_of l.requests.items ++ map (λ one. one.request) (map seen_wanted l.rest) ≡ map (λ one. one.request) (map seen_wanted l.wanted)

abbrev pub decreases-loop-rest : goal.decreases-loop-rest
decreases-loop-rest l = length l.rest
