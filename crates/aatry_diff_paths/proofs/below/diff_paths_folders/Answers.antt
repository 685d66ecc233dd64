use Rattle.std.proofs.Common.{◌≡◌, ℕ, List, ap, map, string_bytes, subst, ◌∙◌}
use Rattle.aa_start.specs.Gathering.{names_of}
use Rattle.aatry_arguments.specs.Given.{meant_path_comparison}
use Rattle.aatry_folder.specs.Loadings.{AreTop, seen_top}
use Rattle.aatry_folder.specs.PolicyFolders.{AreBelow, tried_names}
use Rattle.aatry_claims.specs.Never.{seen_paths_report}
use Rattle.aatry_policy.specs.Folders.{seen_folder}
use Rattle.aatry_diff_paths.specs.Below.{IsCompared, how_of}
use Rattle.aatry_diff_paths.proofs.BelowLemmas.{compared}
use Rattle.aatry_diff_paths.proofs.below.diff_paths_folders.Goals as goal

pub returns-clause-told : goal.returns-clause-told
returns-clause-told g c =
    let folders = g.F.Folders.told c.args.folders.now in
    let known = g.D.FileSystem.known c.args.disk.now in
    let before = c.in_ok-before.before in
    let after = c.in_ok-after.after in
    let old-path = c.as_str.ensures.value in
    let new-path = c.as_str-2.ensures.value in
    let asked = meant_path_comparison c.args.asked in
    let who : map string_bytes c.deref.result.now ≡ asked.who = ap (map string_bytes) c.deref.ensures.value in
    compared c.args.teller.form c.args.teller.verbose c.args.language folders known (meant_path_comparison c.args.asked) (seen_paths_report c.in_ok-compare.field-0)
    (seen_folder before) (seen_folder after)
    c.in_ok-before.ensures.language c.in_ok-after.ensures.language (c.in_ok-before.ensures.base ∙ old-path) (c.in_ok-after.ensures.base ∙ new-path)
    (subst (λ (path : List ℕ). AreBelow folders known path before.files before.unread.items) old-path c.in_ok-before.ensures.below)
    (subst (λ (path : List ℕ). AreBelow folders known path after.files after.unread.items) new-path c.in_ok-after.ensures.below)
    (subst (λ (path : List ℕ). AreTop folders path (tried_names (names_of before.files) before.unread.items) (map seen_top before.top.items)) old-path c.in_ok-before.ensures.top)
    (subst (λ (path : List ℕ). AreTop folders path (tried_names (names_of after.files) after.unread.items) (map seen_top after.top.items)) new-path c.in_ok-after.ensures.top)
    (subst (λ (w : List (List ℕ)). IsCompared c.args.teller.form c.args.teller.verbose (how_of asked) w (seen_folder before) (seen_folder after) (seen_paths_report c.in_ok-compare.field-0)) who c.in_ok-compare.ensures)
