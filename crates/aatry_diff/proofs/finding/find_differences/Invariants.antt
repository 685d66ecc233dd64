use Rattle.std.proofs.Common.{◌≡◌, ◌++◌, drop}
use Rattle.aatry_diff.specs.Differing.{differences}
use Rattle.aatry_diff.specs.SeenDifferences.{seen_differences}
use Rattle.aatry_diff.proofs.finding.find_differences.Given as goal

-- what was found so far and what the other questions give are all, and both policy sets are as they were
abbrev pub invariant-loop-place : goal.invariant-loop-place
invariant-loop-place l =
    let old = l.initial.old.machine.now in
    let new = l.initial.new.machine.now in
    record {
      found : seen_differences l.found.items ++ differences old new (drop l.place l.tallies) ≡ differences old new l.tallies;
      old : l.old ≡ l.initial.old;
      new : l.new ≡ l.initial.new;
    }
