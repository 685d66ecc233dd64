use Rattle.std.proofs.Common.{◌≡◌, ◌≤◌, ◌+◌, ◌-◌}
use Rattle.aatry_words.specs.Moments.{most_years, year_in}
use Rattle.aatry_words.proofs.moments.year_in.Given as goal

-- what is left leads to the year of all
abbrev pub invariant-loop-count : goal.invariant-loop-count
invariant-loop-count l = record {
  same : year_in (most_years - l._count) l.year l.left ≡ year_in most_years 1970 l.fn.days;
  place : l.year ≡ 1970 + l._count;
  few : l.left ≤ l.fn.days;
}
