use Rattle.std.proofs.Common.{◌≡◌, ◌++◌, ◌+◌, length}
use Rattle.aatry_check_rules.specs.Written.{file_places_from}
use Rattle.aatry_check_rules.proofs.numbers.file_places.Given as goal

-- the places so far, with those of the rules that are left, are all
abbrev pub invariant-loop-rest : goal.invariant-loop-rest
invariant-loop-rest l = record {
  same : l.found.items ++ file_places_from l.places l.number l.rest ≡ file_places_from l.places 0 l.rules;
  count : l.number + length l.rest ≡ length l.rules;
}

abbrev pub decreases-loop-rest : goal.decreases-loop-rest
decreases-loop-rest l = length l.rest
