use Rattle.std.proofs.Common.{◌≡◌, ◌+◌, ◌++◌, length, map}
use Rattle.aa_profile_data.specs.SeenRequests.{request_of}
use Rattle.aatry_abstractions.specs.Letting.{places_let}
use Rattle.aatry_abstractions.proofs.letting.places_let.Given as goal

-- the places so far, and those of the rest, are all
abbrev pub invariant-loop-rest : goal.invariant-loop-rest
invariant-loop-rest l = record {
  all : l.places.items ++ places_let l.initial.profile l.place (map request_of l.rest) ≡ places_let l.initial.profile 0 (map request_of l.requests);
  there : l.place + length l.rest ≡ length l.requests;
  same : l.profile ≡ l.initial.profile;
}

abbrev pub decreases-loop-rest : goal.decreases-loop-rest
decreases-loop-rest l = length l.rest
