use Rattle.std.proofs.Common.{◌≡◌, ◌++◌, length}
use Rattle.std.specs.List.{All}
use Rattle.aa_explain_redundant.specs.Seen.{seen_written}
use Rattle.aatry_check_rules.specs.Finding.{HasExample, told_numbers}
use Rattle.aatry_check_rules.proofs.finding.with_examples.Given as goal

-- those so far have right examples, and are all with those that are left
abbrev pub invariant-loop-rest : goal.invariant-loop-rest
invariant-loop-rest l = record {
  numbers : told_numbers l.told.items ++ l.rest ≡ l.gone;
  examples : All (HasExample (seen_written l.rules) l.gone l.limit) l.told.items;
}

abbrev pub decreases-loop-rest : goal.decreases-loop-rest
decreases-loop-rest l = length l.rest
