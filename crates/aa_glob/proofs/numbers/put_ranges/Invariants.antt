use Rattle.std.proofs.Common.{◌≡◌, ◌++◌, take}
use Rattle.aa_glob.specs.Numbers.{ends_of}
use Rattle.aa_glob.proofs.numbers.put_ranges.Given as goal

abbrev pub invariant-loop-range : goal.invariant-loop-range
invariant-loop-range l = l.key.items ≡ l.fn.key.items ++ ends_of (take l.range-index l.ranges)
