use Rattle.std.proofs.Common.{◌≡◌, ◌++◌, length, map}
use Rattle.std.specs.List.{All}
use Rattle.aatry_check_rules.specs.Finding.{IsFound, parts_asked, seen_found}
use Rattle.aatry_check_rules.specs.SeenWhich.{seen_which}
use Rattle.aatry_policy.specs.SeenProfiles.{seen_part}
use Rattle.aatry_check_rules.proofs.finding.find.Given as goal

-- what was found so far is right, and its parts, with those that are left, are all
abbrev pub invariant-loop-rest : goal.invariant-loop-rest
invariant-loop-rest l =
    let names = map (λ name. name.now) l.names in
    record {
      each : All (IsFound (seen_which l.question.which) l.question.limit) (map seen_found l.found.items);
      of : map (λ one. one.part) (map seen_found l.found.items) ++ parts_asked names (map seen_part l.rest) ≡ parts_asked names (map seen_part l.parts);
    }

abbrev pub decreases-loop-rest : goal.decreases-loop-rest
decreases-loop-rest l = length l.rest
