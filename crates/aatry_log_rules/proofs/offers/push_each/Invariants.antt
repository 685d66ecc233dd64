use Rattle.std.proofs.Common.{◌≡◌, ◌++◌, flat_map, length, map}
use Rattle.aatry_log_rules.specs.Offers.{offer_text}
use Rattle.aatry_log_rules.specs.SeenTelling.{seen_offer}
use Rattle.aatry_log_rules.proofs.offers.push_each.Given as goal

-- what was told and what is left make all
abbrev pub invariant-loop-rest : goal.invariant-loop-rest
invariant-loop-rest l =
    l.out.items ++ flat_map (offer_text l.teller.form l.path l.who) (map seen_offer l.rest)
    ≡ l.initial.out.items ++ flat_map (offer_text l.teller.form l.path l.who) (map seen_offer l.offers)

abbrev pub decreases-loop-rest : goal.decreases-loop-rest
decreases-loop-rest l = length l.rest
