use Rattle.std.proofs.Common.{◌≡◌, ◌≤◌, ◌+◌, length, map}
use Rattle.std.specs.Prelude.{count_by}
use Rattle.aatry_check_rules.specs.Finding.{is_many, seen_found}
use Rattle.aatry_check_rules.proofs.summary.many_count.Given as goal

-- the count so far and the others are all, and they are no more than the parts
abbrev pub invariant-loop-rest : goal.invariant-loop-rest
invariant-loop-rest l = record {
  all : l.count + count_by is_many (map seen_found l.rest) ≡ count_by is_many (map seen_found l.found);
  few : l.count + length l.rest ≤ length l.found;
}

abbrev pub decreases-loop-rest : goal.decreases-loop-rest
decreases-loop-rest l = length l.rest
