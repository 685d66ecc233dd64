use Rattle.std.proofs.Common.{◌≡◌, ◌++◌, length}
use Rattle.aa_profile_data.specs.SeenRequests.{request_of}
use Rattle.aa_explain_rules.specs.code.Among.{told_among}
use Rattle.aa_explain_rules.proofs.told.told_among.Given as goal

-- what was told so far, and what is told at the rest, are all
abbrev pub invariant-loop-rest : goal.invariant-loop-rest
invariant-loop-rest l = l.found.items ++ told_among l.audit (request_of l.request) l.rules l.rest ≡ told_among l.audit (request_of l.request) l.rules l.places

abbrev pub decreases-loop-rest : goal.decreases-loop-rest
decreases-loop-rest l = length l.rest
