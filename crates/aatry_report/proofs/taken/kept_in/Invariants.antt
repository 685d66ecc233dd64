use Rattle.std.proofs.Common.{◌≡◌, ◌≤◌, ◌+◌, drop}
use Rattle.aatry_report.specs.Taken.{kept_in}
use Rattle.aatry_report.proofs.taken.kept_in.Given as goal

-- the count so far, with that of the rules that are left, is all
abbrev pub invariant-loop-rule : goal.invariant-loop-rule
invariant-loop-rule l = record {
  all : l.count + kept_in (drop l.rule-index l.rules) ≡ kept_in l.rules;
  few : l.count ≤ l.rule-index;
}
