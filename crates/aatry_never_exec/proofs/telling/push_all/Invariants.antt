use Rattle.std.proofs.Common.{◌≡◌, ◌++◌, length, map}
use Rattle.aatry_never_exec.specs.Telling.{all_told}
use Rattle.aatry_reach.specs.Finding.{seen_found}
use Rattle.aatry_never_exec.proofs.telling.push_all.Given as goal

-- what was told so far, with what is told of those that are left, is all
abbrev pub invariant-loop-rest : goal.invariant-loop-rest
invariant-loop-rest l =
    l.out.items ++ all_told l.teller.form l.names l.slots (map seen_found l.rest)
    ≡ l.initial.out.items ++ all_told l.teller.form l.names l.slots (map seen_found l.found)

abbrev pub decreases-loop-rest : goal.decreases-loop-rest
decreases-loop-rest l = length l.rest
