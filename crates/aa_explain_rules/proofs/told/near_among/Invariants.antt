use Rattle.std.proofs.Common.{◌≡◌, ◌++◌, length}
use Rattle.aa_profile_data.specs.SeenRequests.{request_of}
use Rattle.aa_explain_rules.specs.Told.{is_near}
use Rattle.aa_explain_rules.specs.code.Among.{among}
use Rattle.aa_explain_rules.proofs.told.near_among.Given as goal

-- the places so far, and those of the rest, are all
abbrev pub invariant-loop-rest : goal.invariant-loop-rest
invariant-loop-rest l = l.found.items ++ among (is_near (request_of l.request)) l.rules l.rest ≡ among (is_near (request_of l.request)) l.rules l.places

abbrev pub decreases-loop-rest : goal.decreases-loop-rest
decreases-loop-rest l = length l.rest
