use Rattle.std.proofs.Common.{◌≡◌, ◌+◌, length, map}
use Rattle.std.specs.List.{sum_by}
use Rattle.aatry_check_rules.specs.Finding.{seen_found}
use Rattle.aatry_check_rules.specs.Summary.{told_in}
use Rattle.aatry_check_rules.proofs.summary.told_count.Given as goal

-- the count so far, with that of those that are left, is all
abbrev pub invariant-loop-rest : goal.invariant-loop-rest
invariant-loop-rest l = l.count + sum_by told_in (map seen_found l.rest) ≡ sum_by told_in (map seen_found l.found)

abbrev pub decreases-loop-rest : goal.decreases-loop-rest
decreases-loop-rest l = length l.rest
