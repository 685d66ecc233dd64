use Rattle.std.proofs.Common.{◌≡◌, ◌≤◌, ◌+◌, length, map}
use Rattle.std.specs.Prelude.{count_by}
use Rattle.aatry_check_rules.specs.Unattached.{is_asked_at}
use Rattle.aatry_check_rules.proofs.unattached.asked_count.Given as goal

-- the count so far and the others are all, and they are no more than the places
abbrev pub invariant-loop-rest : goal.invariant-loop-rest
invariant-loop-rest l =
    let asked = is_asked_at l.slots l.origins (map (λ name. name.now) l.names) in
    record {
      all : l.count + count_by asked l.rest ≡ count_by asked l.places;
      few : l.count + length l.rest ≤ length l.places;
    }

abbrev pub decreases-loop-rest : goal.decreases-loop-rest
decreases-loop-rest l = length l.rest
