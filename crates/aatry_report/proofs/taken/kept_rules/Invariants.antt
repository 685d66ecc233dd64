use Rattle.std.proofs.Common.{◌≡◌, ◌≤◌, ◌+◌, ◌-◌, ◌^◌, length}
use Rattle.aatry_report.specs.Taken.{counted, kept_rules}
use Rattle.aatry_report.proofs.taken.kept_rules.Given as goal

-- the count so far, with that of the profiles that are left, is all
abbrev pub invariant-loop-rest : goal.invariant-loop-rest
invariant-loop-rest l = record {
  all : counted (l.sum + kept_rules l.rest) ≡ counted (kept_rules l.profiles);
  within : l.sum ≤ 2 ^ 64 - 1;
}

abbrev pub decreases-loop-rest : goal.decreases-loop-rest
decreases-loop-rest l = length l.rest
