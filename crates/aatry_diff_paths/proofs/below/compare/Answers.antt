use Rattle.std.proofs.Common.{◌≡◌, ◌∙◌, ◌++◌, ℕ, List, Bor, ap, map}
use Rattle.aatry_folder.specs.Loadings.{file_names, seen_top}
use Rattle.aatry_policy.specs.FolderParts.{by_parts}
use Rattle.aatry_policy.specs.Folders.{below, left_out_in, left_out_note, seen_folder}
use Rattle.aatry_policy.specs.LeftOut.{left_out_of}
use Rattle.aatry_policy.specs.Parts.{set_parts}
use Rattle.aatry_uncertain.specs.LeftOutHeads.{heads_in_files, heads_left_out, heads_loaded}
use Rattle.aatry_diff_paths.specs.Below.{seen_how, seen_loaded}
use Rattle.aatry_diff_paths.proofs.BelowLemmas.{told-by}
use Rattle.aatry_diff_paths.proofs.below.compare.Goals as goal

pub returns : goal.returns
returns c =
    let before = c.in_ok-before.ensures in
    let after = c.in_ok-after.ensures in
    let form = c.args.teller.form in
    let verbose = c.args.teller.verbose in
    let old = seen_folder c.args.old.now in
    let new = seen_folder c.args.new.now in
    let old-loaded : seen_loaded c.in_ok-before.before ≡ by_parts old =
    λ i. record { below = below (seen_folder (before.folder i)); parts = set_parts (before.set i).machine.now (before.origins i) } in
    let new-loaded : seen_loaded c.in_ok-after.after ≡ by_parts new =
    λ i. record { below = below (seen_folder (after.folder i)); parts = set_parts (after.set i).machine.now (after.origins i) } in
    let heads : heads_loaded c.in_ok-after.after ≡ heads_left_out new =
    λ i. heads_in_files (after.folder i).files (left_out_of (file_names (map seen_top (after.folder i).top.items)) (after.outcomes i)) in
    let text = after.told ∙ ap (λ front. front ++ left_out_in form verbose new) (before.told ∙ ap (λ front. front ++ left_out_in form verbose old) c.new-report.ensures.text) in
    let notes = after.noted ∙ ap (λ front. front ++ left_out_note new) (before.noted ∙ ap (λ front. front ++ left_out_note old) c.new-report.ensures.notes) in
    let who = ap (map (λ (name : Bor (List ℕ)). name.now)) c.deref.ensures.value ∙ c.in_ok-slices.ensures in
    record {
      otherwise = c.in_ok-told.told.otherwise;
      found = told-by form (seen_how c.args.asked) _ _ _ _ _ _ _ _ _ _ _ _ _ _ _ _ _ heads old-loaded new-loaded
          (λ i. (before.set i).machine.now) (λ i. (after.set i).machine.now) who text c.in_ok-told.ensures;
      noted = notes;
      counted = c.failed_by.ensures.value;
    }
