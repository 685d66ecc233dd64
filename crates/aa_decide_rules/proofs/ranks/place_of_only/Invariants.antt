use Rattle.std.proofs.Common.{◌≡◌, ◌+◌, length}
use Rattle.std.specs.Option.{option_map}
use Rattle.aa_decide_rules.specs.StandingOut.{place_of_only}
use Rattle.aa_decide_rules.proofs.ranks.place_of_only.Given as goal

-- the rank is none of those so far
abbrev pub invariant-loop-rest : goal.invariant-loop-rest
invariant-loop-rest l = record {
  same : option_map (λ place. l.place + place) (place_of_only l.rank l.rest) ≡ place_of_only l.rank l.ranks;
  count : l.place + length l.rest ≡ length l.ranks;
}

abbrev pub decreases-loop-rest : goal.decreases-loop-rest
decreases-loop-rest l = length l.rest
