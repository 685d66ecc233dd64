use Rattle.std.proofs.Common.{◌≡◌, ◌+◌, ◌++◌, length}
use Rattle.aa_profile_data.specs.SeenRequests.{request_of}
use Rattle.aa_explain_rules.specs.Asked.{concerned, concerns}
use Rattle.aa_explain_rules.specs.Told.{places_where}
use Rattle.aa_explain_rules.proofs.asked.concerned_listed.Given as goal

-- the places so far, and those of the rest, are all
abbrev pub invariant-loop-rest : goal.invariant-loop-rest
invariant-loop-rest l = record {
  all : l.found.items ++ places_where (concerns (request_of l.request)) l.place l.rest ≡ concerned (request_of l.request) l.rules;
  there : l.place + length l.rest ≡ length l.rules;
}

abbrev pub decreases-loop-rest : goal.decreases-loop-rest
decreases-loop-rest l = length l.rest
