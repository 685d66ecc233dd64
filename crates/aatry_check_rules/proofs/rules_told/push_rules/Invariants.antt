use Rattle.std.proofs.Common.{◌≡◌, ◌++◌, length}
use Rattle.aatry_check_rules.specs.Telling.{rules_told}
use Rattle.aatry_policy.specs.SeenProfiles.{seen_part}
use Rattle.aatry_check_rules.proofs.rules_told.push_rules.Given as goal

-- what was told so far, with what is told of those that are left, is all; and places are found as before
abbrev pub invariant-loop-rest : goal.invariant-loop-rest
invariant-loop-rest l =
    let text = rules_told l.teller.form l.initial.finder (seen_part l.part) in
    record {
      told : l.out.items ++ text l.rest ≡ l.initial.out.items ++ text l.told;
      same : l.finder ≡ l.initial.finder;
    }

abbrev pub decreases-loop-rest : goal.decreases-loop-rest
decreases-loop-rest l = length l.rest
