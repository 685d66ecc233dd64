use Rattle.std.proofs.Common.{◌≡◌, ◌++◌, length, map}
use Rattle.aatry_check_rules.specs.Finding.{seen_found}
use Rattle.aatry_check_rules.specs.Telling.{all_text}
use Rattle.aatry_check_rules.proofs.telling.push_each.Given as goal

-- what was told so far, with what is told of those that are left, is all; and places are found as before
abbrev pub invariant-loop-rest : goal.invariant-loop-rest
invariant-loop-rest l =
    let text = all_text l.teller.form l.initial.finder in
    record {
      told : l.out.items ++ text (map seen_found l.rest) ≡ l.initial.out.items ++ text (map seen_found l.found);
      same : l.finder ≡ l.initial.finder;
    }

abbrev pub decreases-loop-rest : goal.decreases-loop-rest
decreases-loop-rest l = length l.rest
