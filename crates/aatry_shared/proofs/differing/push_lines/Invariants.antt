use Rattle.std.proofs.Common.{◌≡◌, ◌++◌, length, map}
use Rattle.aa_explain_diff.specs.Features.{seen_feature}
use Rattle.aatry_shared.specs.Differing.{told_lines}
use Rattle.aatry_shared.proofs.differing.push_lines.Given as goal
use Rattle.aatry_policy.specs.FolderParts.{seen_folder}
use Rattle.aatry_policy.specs.SeenProfiles.{seen_part}

-- the text so far, with what is told of the features that are left, is all; and places are found in the part's folder
abbrev pub invariant-loop-rest : goal.invariant-loop-rest
invariant-loop-rest l =
    let text = told_lines l.teller.form (seen_folder l.own.folder.now) (seen_part l.own.part.now) l.blanks l.own.side in
    record {
      told : l.out.items ++ text (map seen_feature l.rest) ≡ l.initial.out.items ++ text (map seen_feature l.features);
      same : l.finder ≡ l.initial.finder;
    }

abbrev pub decreases-loop-rest : goal.decreases-loop-rest
decreases-loop-rest l = length l.rest
