use Rattle.std.proofs.Common.{◌≡◌, ◌++◌, length, map}
use Rattle.aa_explain_changes.specs.FileChanges.{seen_rule_change}
use Rattle.aatry_diff_paths.specs.Telling.{rules_text}
use Rattle.aatry_policy.specs.FolderParts.{seen_folder}
use Rattle.aatry_policy.specs.SeenProfiles.{seen_part}
use Rattle.aatry_diff_paths.proofs.told_changes.push_rules.Given as goal

-- what was told so far, with what is told of those that are left, is all; and places are found as before
abbrev pub invariant-loop-rest : goal.invariant-loop-rest
invariant-loop-rest l =
    let text = rules_text l.teller.form (seen_folder l.own.folder.now) (seen_part l.own.part.now) l.own.side in
    record {
      told : l.out.items ++ text (map seen_rule_change l.rest) ≡ l.initial.out.items ++ text (map seen_rule_change l.changes);
      same : l.finder ≡ l.initial.finder;
    }

abbrev pub decreases-loop-rest : goal.decreases-loop-rest
decreases-loop-rest l = length l.rest
