use Rattle.std.proofs.Common.{◌≡◌, ◌++◌, length, map}
use Rattle.aatry_path_changes.specs.Finding.{seen_found}
use Rattle.aatry_diff_paths.specs.Telling.{all_text}
use Rattle.aatry_policy.specs.FolderParts.{seen_folder}
use Rattle.aatry_uncertain.specs.SeenHeads.{all_left_out}
use Rattle.aatry_diff_paths.proofs.telling.push_each.Given as goal

-- what was told so far, with what is told of those that are left, is all; and places are found as before
abbrev pub invariant-loop-rest : goal.invariant-loop-rest
invariant-loop-rest l =
    let text = all_text l.teller.form l.how.stat (all_left_out l.compared.left_out.now.heads.items) (seen_folder l.compared.old.now) (seen_folder l.compared.new.now) in
    record {
      told : l.out.items ++ text (map seen_found l.rest) ≡ l.initial.out.items ++ text (map seen_found l.found);
      same : l.finders ≡ l.initial.finders;
    }

abbrev pub decreases-loop-rest : goal.decreases-loop-rest
decreases-loop-rest l = length l.rest
