use Rattle.std.proofs.Common.{◌≡◌, ◌++◌, length}
use Rattle.aa_profile_data.specs.SeenRequests.{request_of}
use Rattle.aa_explain_rules.specs.InTheWay.{is_in_the_way}
use Rattle.aa_explain_rules.specs.code.Among.{among}
use Rattle.aa_explain_rules.proofs.in_the_way.in_the_way_among.Given as goal

-- the places so far, and those of the rest, are all
abbrev pub invariant-loop-rest : goal.invariant-loop-rest
invariant-loop-rest l =
    let test = is_in_the_way (request_of l.request) l.needs.0 in
    l.found.items ++ among test l.rules l.rest ≡ among test l.rules l.places

abbrev pub decreases-loop-rest : goal.decreases-loop-rest
decreases-loop-rest l = length l.rest
