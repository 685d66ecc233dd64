use Rattle.std.proofs.Common.{◌≡◌, ◌≤◌, ◌+◌, drop}
use Rattle.aatry_policy.specs.Notes.{left_out_count}
use Rattle.aatry_policy.proofs.notes.left_out_count.Given as goal

-- those so far and those that are left make all
abbrev pub invariant-loop-outcome : goal.invariant-loop-outcome
invariant-loop-outcome l = record {
  counted : l.number + left_out_count (drop l.outcome-index l.outcomes) ≡ left_out_count l.outcomes;
  few : l.number ≤ l.outcome-index;
}
