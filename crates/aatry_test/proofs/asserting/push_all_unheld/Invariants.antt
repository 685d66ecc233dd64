use Rattle.std.proofs.Common.{◌≡◌, ◌&&◌, ◌++◌, length, map}
use Rattle.aatry_test.specs.Asserting.{all_hold, unheld_lines}
use Rattle.aatry_claims.specs.Found.{seen_found}
use Rattle.aatry_claims.specs.SeenClaimed.{seen_claimed}
use Rattle.aatry_test.proofs.asserting.push_all_unheld.Given as goal

-- what was told so far, with what is told of those that are left, is all; and so is what holds
abbrev pub invariant-loop-rest : goal.invariant-loop-rest
invariant-loop-rest l = record {
  told : l.out.items ++ unheld_lines (seen_claimed l.claimed) (map seen_found l.rest)
      ≡ l.initial.out.items ++ unheld_lines (seen_claimed l.claimed) (map seen_found l.found);
  held : (l.all && all_hold (map seen_found l.rest)) ≡ all_hold (map seen_found l.found);
}

abbrev pub decreases-loop-rest : goal.decreases-loop-rest
decreases-loop-rest l = length l.rest
