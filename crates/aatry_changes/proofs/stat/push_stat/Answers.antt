use Rattle.std.proofs.Common.{length, sym, ap, ◌∙◌}
use Rattle.std.proofs.lemmas.List.{length-map}
use Rattle.aatry_changes.proofs.CountLemmas.{changes-counted}
use Rattle.aatry_changes.proofs.stat.push_stat.Goals as goal
use Rattle.aatry_changes.specs.PartChanges.{seen_change}
use Rattle.aatry_policy.specs.FolderParts.{seen_folder}

pub returns-clause-count : goal.returns-clause-count
returns-clause-count c =
    c.len.ensures ∙ c.in_ok-changes.changes.ok.0 ∙ sym (length-map c.in_ok-changes.changes.items seen_change)
    ∙ ap length c.in_ok-changes.ensures ∙ changes-counted (seen_folder c.args.compared.now.old.now) (seen_folder c.args.compared.now.new.now)
