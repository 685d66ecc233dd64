use Rattle.std.specs.Option.{option_map}
use Rattle.aatry_diff.specs.Comparing.{both, parts_text}
use Rattle.aatry_diff.specs.NewlyLeftOut.{newly_left_out, newly_lines}
use Rattle.aatry_diff.specs.Sources.{requests_text}
use Rattle.aatry_diff.specs.code.Steps.{compared_text}
use Rattle.aatry_policy.specs.FolderParts.{by_parts}
use Rattle.aatry_policy.specs.Folders.{left_out_in, policy_in, seen_folder}
use Rattle.aatry_requests.specs.Gathering.{seen_requests}
use Rattle.aatry_uncertain.specs.LeftOutHeads.{heads_left_out}
use Rattle.aatry_diff.proofs.TextLemmas.{part_by_part}
use Rattle.aatry_diff.proofs.comparing.compare.Goals as goal

pub returns-clause-told : goal.returns-clause-told
unfolding compared_text
returns-clause-told c =
    let text = c.in_ok-unchanged.ensures.told in
    let before = c.in_ok-before.ensures in
    let after = c.in_ok-after.ensures in
    let form = c.args.teller.form in
    let verbose = c.args.teller.verbose in
    let old = seen_folder c.args.old.now in
    let new = seen_folder c.args.new.now in
    let requests = option_map seen_requests c.args.requests.now in
    rw (text, after.told, before.told, c.new-report.ensures.text, after.folder, before.folder, after.outcomes, before.outcomes, after.set, before.set, after.origins, before.origins)
    (part_by_part (left_out_in form verbose old) (left_out_in form verbose new) (newly_lines form new (newly_left_out old new))
    (parts_text form c.args.stat (heads_left_out new) (by_parts old) (by_parts new)) (requests_text form c.args.stat (both old new) (policy_in old) (policy_in new) requests))
