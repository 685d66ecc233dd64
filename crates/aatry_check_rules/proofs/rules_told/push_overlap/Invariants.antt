use Rattle.std.proofs.Common.{◌≡◌, ◌++◌, length}
use Rattle.std.specs.Prelude.{flat_map}
use Rattle.aa_explain_redundant.specs.Examples.{seen_overlap}
use Rattle.aatry_check_rules.specs.Telling.{beside_text}
use Rattle.aatry_policy.specs.SeenProfiles.{seen_part}
use Rattle.aatry_check_rules.proofs.rules_told.push_overlap.Given as goal

-- what was told so far, with what is told of those that are left, is all; and places are found as before
abbrev pub invariant-loop-rest : goal.invariant-loop-rest
invariant-loop-rest l =
    let text = flat_map (beside_text l.teller.form l.initial.finder (seen_part l.part) (seen_overlap l.overlap)) in
    record {
      told : l.out.items ++ text l.rest ≡ l.initial.out.items ++ text l.overlap.beside.items;
      same : l.finder ≡ l.initial.finder;
    }

abbrev pub decreases-loop-rest : goal.decreases-loop-rest
decreases-loop-rest l = length l.rest
