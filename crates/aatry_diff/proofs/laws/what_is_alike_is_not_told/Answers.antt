use Rattle.std.proofs.Common.{◌==◌, ◌&&◌, ap, sym, ◌∙◌}
use Rattle.std.proofs.lemmas.List.{length-map}
use Rattle.aatry_diff.specs.Comparing.{both}
use Rattle.aatry_diff.specs.Differing.{difference_of, differing}
use Rattle.aatry_diff.specs.Sources.{tallies_of}
use Rattle.aatry_policy.specs.FolderParts.{by_parts}
use Rattle.aatry_policy.specs.Folders.{policy_in}
use Rattle.aatry_uncertain.specs.LeftOutHeads.{heads_left_out}
use Rattle.aatry_diff.proofs.laws.what_is_alike_is_not_told.Goals as goal

pub returns : goal.returns
returns c = λ form old new requests.
    let before = policy_in old in
    let after = policy_in new in
    let asked = differing before after (tallies_of requests) in
    let questions = ap (λ n. n == 0) (length-map asked (difference_of before after))
    ∙ sym (c.what_differs_is_told.ensures form (both old new) before after (tallies_of requests)) in
    λ i. sym (c.what_is_counted_is_told.ensures.of_both form (heads_left_out new) (by_parts old) (by_parts new)) i && questions i
