use Rattle.std.proofs.Common.{◌≡◌, length, map}
use Rattle.aatry_check_rules.specs.Finding.{seen_found, some_told}
use Rattle.aatry_check_rules.proofs.finding.some_told.Given as goal

-- none so far decides: the others do
abbrev pub invariant-loop-rest : goal.invariant-loop-rest
invariant-loop-rest l = some_told (map seen_found l.rest) ≡ some_told (map seen_found l.found)

abbrev pub decreases-loop-rest : goal.decreases-loop-rest
decreases-loop-rest l = length l.rest
