use Rattle.std.proofs.Common.{◌≡◌, ◌+◌, ◌++◌, length}
use Rattle.aa_decide_rules.specs.code.MatchingPlaces.{matching_from}
use Rattle.aa_decide_rules.proofs.matching.matching_places.Given as goal

-- the places so far, and those of the rest, are all
abbrev pub invariant-loop-rest : goal.invariant-loop-rest
invariant-loop-rest l = record {
  all : l.found.items ++ matching_from l.path l.place l.rest ≡ matching_from l.path 0 l.rules;
  there : l.place + length l.rest ≡ length l.rules;
}

abbrev pub decreases-loop-rest : goal.decreases-loop-rest
decreases-loop-rest l = length l.rest
