use Rattle.std.proofs.Common.{◌≡◌, ◌++◌, flat_map, length}
use Rattle.aatry_changes.specs.Changes.{told_change}
use Rattle.aatry_changes.specs.PartChanges.{seen_changes}
use Rattle.aatry_changes.proofs.changes.push_each.Given as goal
use Rattle.aatry_policy.specs.FolderParts.{seen_folder}
use Rattle.aatry_uncertain.specs.SeenHeads.{all_left_out}

-- the text so far, with what is told of the parts that are left, is all; and places are found in both folders
abbrev pub invariant-loop-rest : goal.invariant-loop-rest
invariant-loop-rest l =
    let text = flat_map (told_change l.teller.form (all_left_out l.compared.left_out.now.heads.items) (seen_folder l.compared.old.now) (seen_folder l.compared.new.now) l.sharing) in
    record {
      told : l.out.items ++ text (seen_changes l.rest) ≡ l.initial.out.items ++ text (seen_changes l.changes);
      same : l.finders ≡ l.initial.finders;
    }

abbrev pub decreases-loop-rest : goal.decreases-loop-rest
decreases-loop-rest l = length l.rest
