use Rattle.std.proofs.Common.{ℕ, List, ap, map, subst, ◌∙◌}
use Rattle.aa_start.specs.Gathering.{names_of}
use Rattle.aatry_arguments.specs.Given.{meant_comparison}
use Rattle.aatry_diff.proofs.BelowLemmas.{compared}
use Rattle.aatry_diff.proofs.below.diff_folders.Goals as goal
use Rattle.aatry_diff.specs.Comparing.{diff_text, is_unchanged}
use Rattle.aatry_diff.specs.code.Requests.{gathered_of}
use Rattle.aatry_folder.specs.Loadings.{AreTop, seen_top}
use Rattle.aatry_folder.specs.PolicyFolders.{AreBelow, tried_names}
use Rattle.aatry_folder.specs.Reports.{failed_by, seen_report}
use Rattle.aatry_policy.specs.Folders.{seen_folder}

pub returns-clause-told : goal.returns-clause-told
returns-clause-told g c =
    let form = c.args.teller.form in
    let verbose = c.args.teller.verbose in
    let folders = g.F.Folders.told c.args.folders.now in
    let known = g.D.FileSystem.known c.args.disk.now in
    let before = c.in_ok-before.before in
    let after = c.in_ok-after.after in
    let old-path = c.as_str.ensures.value in
    let new-path = c.as_str-2.ensures.value in
    compared form verbose c.args.language folders known (meant_comparison c.args.asked) (seen_report c.in_ok-diff.field-0) (seen_folder before) (seen_folder after)
    (gathered_of c.in_ok-found.found)
    c.in_ok-before.ensures.language c.in_ok-after.ensures.language (c.in_ok-before.ensures.base ∙ old-path) (c.in_ok-after.ensures.base ∙ new-path)
    (subst (λ (path : List ℕ). AreBelow folders known path before.files before.unread.items) old-path c.in_ok-before.ensures.below)
    (subst (λ (path : List ℕ). AreBelow folders known path after.files after.unread.items) new-path c.in_ok-after.ensures.below)
    (subst (λ (path : List ℕ). AreTop folders path (tried_names (names_of before.files) before.unread.items) (map seen_top before.top.items)) old-path c.in_ok-before.ensures.top)
    (subst (λ (path : List ℕ). AreTop folders path (tried_names (names_of after.files) after.unread.items) (map seen_top after.top.items)) new-path c.in_ok-after.ensures.top)
    c.in_ok-found.ensures.gathered
    (c.in_ok-diff.ensures.told ∙ ap (diff_text form verbose c.args.asked.stat (seen_folder before) (seen_folder after)) c.source_of.ensures)
    c.in_ok-diff.ensures.noted
    (c.in_ok-diff.ensures.failed ∙ ap (λ requests. failed_by (is_unchanged (seen_folder before) (seen_folder after) requests)) c.source_of.ensures)
