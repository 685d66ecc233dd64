use Rattle.std.proofs.Common.{◌≡◌, ◌+◌, ◌≤◌, length, map}
use Rattle.aatry_log_rules.specs.Offers.{own_count}
use Rattle.aatry_log_rules.specs.SeenWanted.{seen_wanted}
use Rattle.aatry_log_rules.proofs.offers.own_count.Given as goal

-- how many there are so far, with those of the rest, are all
abbrev pub invariant-loop-rest : goal.invariant-loop-rest
invariant-loop-rest l = record {
  all : l.count + own_count (map seen_wanted l.wanted) l.who l.rest ≡ own_count (map seen_wanted l.wanted) l.who l.places;
  few : l.count + length l.rest ≤ length l.places;
}

abbrev pub decreases-loop-rest : goal.decreases-loop-rest
decreases-loop-rest l = length l.rest
