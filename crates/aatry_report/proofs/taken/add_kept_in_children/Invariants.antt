use Rattle.std.proofs.Common.{◌≡◌, ◌≤◌, ◌+◌, ◌-◌, ◌^◌, length}
use Rattle.aatry_report.specs.Taken.{counted, kept_in_children}
use Rattle.aatry_report.proofs.taken.add_kept_in_children.Given as goal

-- the count so far, with that of the children that are left, is all
abbrev pub invariant-loop-rest : goal.invariant-loop-rest
invariant-loop-rest l = record {
  all : counted (l.sum + kept_in_children l.rest) ≡ counted (l.kept + kept_in_children l.children);
  within : l.sum ≤ 2 ^ 64 - 1;
}

abbrev pub decreases-loop-rest : goal.decreases-loop-rest
decreases-loop-rest l = length l.rest
