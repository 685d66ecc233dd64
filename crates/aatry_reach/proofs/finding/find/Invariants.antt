use Rattle.std.proofs.Common.{◌≡◌, ◌++◌, length, map}
use Rattle.std.specs.List.{All}
use Rattle.aatry_reach.specs.Finding.{IsFound, found_names, seen_found}
use Rattle.aatry_reach.proofs.finding.find.Given as goal

-- what was found so far is right, and its names, with those that are left, are all
abbrev pub invariant-loop-rest : goal.invariant-loop-rest
invariant-loop-rest l = record {
  each : All (IsFound l.slots l.limit) (map seen_found l.found.items);
  named : found_names (map seen_found l.found.items) ++ map (λ name. name.now) l.rest ≡ map (λ name. name.now) l.names;
}

abbrev pub decreases-loop-rest : goal.decreases-loop-rest
decreases-loop-rest l = length l.rest
