use Rattle.std.proofs.Common.{◌≡◌, ◌+◌, length}
use Rattle.aatry_check_rules.specs.Written.{first_at}
use Rattle.aatry_check_rules.proofs.numbers.first_at.Given as goal

-- none so far stands there: those that are left decide
abbrev pub invariant-loop-rest : goal.invariant-loop-rest
invariant-loop-rest l = record {
  same : first_at l.place l.other l.number l.rest ≡ first_at l.place l.other 0 l.places;
  count : l.number + length l.rest ≡ length l.places;
}

abbrev pub decreases-loop-rest : goal.decreases-loop-rest
decreases-loop-rest l = length l.rest
