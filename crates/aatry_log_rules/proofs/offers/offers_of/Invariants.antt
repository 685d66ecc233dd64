use Rattle.std.proofs.Common.{◌≡◌, ◌++◌, length, map}
use Rattle.aatry_abstractions.specs.SeenLetting.{seen_letting}
use Rattle.aatry_log_rules.specs.Offers.{offers_of}
use Rattle.aatry_log_rules.specs.SeenTelling.{seen_offer, seen_telling}
use Rattle.aatry_log_rules.proofs.offers.offers_of.Given as goal

-- those so far, and those among the rest, are all
abbrev pub invariant-loop-rest : goal.invariant-loop-rest
invariant-loop-rest l =
    map seen_offer l.found.items ++ offers_of (seen_telling l.telling).wanted l.who (map seen_letting l.rest)
    ≡ offers_of (seen_telling l.telling).wanted l.who (seen_telling l.telling).lettings

abbrev pub decreases-loop-rest : goal.decreases-loop-rest
decreases-loop-rest l = length l.rest
