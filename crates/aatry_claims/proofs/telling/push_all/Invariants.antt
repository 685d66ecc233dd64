use Rattle.std.proofs.Common.{◌≡◌, ◌++◌, length, map}
use Rattle.aatry_folder.specs.PolicyFiles.{seen_files}
use Rattle.aatry_claims.specs.Found.{seen_found}
use Rattle.aatry_claims.specs.SeenClaimed.{seen_claimed}
use Rattle.aatry_claims.specs.Telling.{all_told}
use Rattle.aatry_claims.proofs.telling.push_all.Given as goal

-- what was told so far, with what is told of those that are left, is all
abbrev pub invariant-loop-rest : goal.invariant-loop-rest
invariant-loop-rest l =
    l.out.items ++ all_told l.teller.form l.names (seen_files l.below) (seen_claimed l.claimed) (map seen_found l.rest)
    ≡ l.initial.out.items ++ all_told l.teller.form l.names (seen_files l.below) (seen_claimed l.claimed) (map seen_found l.found)

abbrev pub decreases-loop-rest : goal.decreases-loop-rest
decreases-loop-rest l = length l.rest
