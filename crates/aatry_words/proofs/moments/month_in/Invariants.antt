use Rattle.std.proofs.Common.{◌≡◌, ◌≤◌, ◌+◌, ◌-◌}
use Rattle.aatry_words.specs.Moments.{month_in, most_months}
use Rattle.aatry_words.proofs.moments.month_in.Given as goal

-- what is left leads to the month of all
abbrev pub invariant-loop-count : goal.invariant-loop-count
invariant-loop-count l = record {
  same : month_in (most_months - l._count) l.fn.year l.month l.left ≡ month_in most_months l.fn.year 1 l.fn.days;
  place : l.month ≡ 1 + l._count;
  few : l.left ≤ l.fn.days;
}
