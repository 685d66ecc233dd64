use Rattle.std.proofs.Common.{◌≡◌, ◌++◌, ◌+◌, length}
use Rattle.aatry_check_rules.specs.Written.{numbers_from}
use Rattle.aatry_check_rules.proofs.numbers.numbers_of.Given as goal

-- the numbers so far, with those of the rules that are left, are all
abbrev pub invariant-loop-rest : goal.invariant-loop-rest
invariant-loop-rest l = record {
  same : l.numbers.items ++ numbers_from l.places l.number l.rest ≡ numbers_from l.places 0 l.places;
  count : l.number + length l.rest ≡ length l.places;
}

abbrev pub decreases-loop-rest : goal.decreases-loop-rest
decreases-loop-rest l = length l.rest
