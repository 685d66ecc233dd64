use Rattle.std.proofs.Common.{◌∙◌, sym}
use Rattle.aa_bytes.specs.Texts.{is_empty}
use Rattle.aatry_changes.specs.Changes.{change_lines}
use Rattle.aatry_diff.proofs.LawLemmas.{both-first, empty-none}
use Rattle.aatry_diff.specs.Comparing.{both}
use Rattle.aatry_diff.specs.Sources.{differences_text}
use Rattle.aatry_policy.specs.FolderParts.{by_parts}
use Rattle.aatry_policy.specs.Folders.{policy_in}
use Rattle.aatry_report.specs.declared.form.Form.TheVariants.{Lines}
use Rattle.aatry_uncertain.specs.LeftOutHeads.{heads_left_out}
use Rattle.aatry_diff.proofs.laws.what_alike_folders_answer.Goals as goal

pub returns : goal.returns
returns c old new requests part alike there =
    let told = change_lines Lines (heads_left_out new) (by_parts old) (by_parts new) in
    let others = differences_text Lines (both old new) (policy_in old) (policy_in new) requests in
    let none = both-first (is_empty told) (is_empty others) (sym (c.what_is_alike_is_not_told.ensures Lines old new requests) ∙ alike) in
    c.what_is_not_told_answers_alike.ensures.of_all Lines (heads_left_out new) (by_parts old) (by_parts new) part (empty-none told none) there
