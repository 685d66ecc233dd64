use Rattle.std.proofs.Common.{◌≡◌, ◌++◌, length, map}
use Rattle.std.specs.List.{All}
use Rattle.aatry_path_changes.specs.Finding.{IsFound, found_names, seen_found}
use Rattle.aatry_path_changes.specs.Starts.{seen_policies}
use Rattle.aatry_policy.specs.FolderParts.{seen_folder}
use Rattle.aatry_path_changes.proofs.finding.find.Given as goal

-- what was found so far is right, and its names, with those that are left, are all
abbrev pub invariant-loop-rest : goal.invariant-loop-rest
invariant-loop-rest l = record {
  each : All (IsFound l.question.quiet l.question.limit (seen_policies l.question.policies) (seen_folder l.question.old.now) (seen_folder l.question.new.now)) (map seen_found l.found.items);
  named : found_names (map seen_found l.found.items) ++ map (λ name. name.items) l.rest ≡ map (λ name. name.items) l.names;
}

abbrev pub decreases-loop-rest : goal.decreases-loop-rest
decreases-loop-rest l = length l.rest
