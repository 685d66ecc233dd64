use Rattle.std.proofs.Common.{◌≡◌, ◌++◌, length, map}
use Rattle.aatry_check_rules.specs.UnattachedTold.{places_text}
use Rattle.aatry_check_rules.proofs.unattached_told.push_places.Given as goal

-- what was told so far, with what is told of those that are left, is all; and places are found as before
abbrev pub invariant-loop-rest : goal.invariant-loop-rest
invariant-loop-rest l =
    let text = places_text l.teller.form l.initial.finder l.slots l.origins (map (λ name. name.now) l.names) in
    record {
      told : l.out.items ++ text l.rest ≡ l.initial.out.items ++ text l.places;
      same : l.finder ≡ l.initial.finder;
    }

abbrev pub decreases-loop-rest : goal.decreases-loop-rest
decreases-loop-rest l = length l.rest
