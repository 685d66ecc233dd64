use Rattle.std.proofs.Common.{map, rules, subst}
use Rattle.std.proofs.lemmas.List.Sorted.{IsPermutation-map, answers_always}
use Rattle.aatry_abstractions.specs.Letting.{IsNarrowestFirst}
use Rattle.aatry_abstractions.specs.SeenLetting.{seen_letting}
use Rattle.aatry_abstractions.proofs.SizeLemmas.{by-size, code_narrower, sorted-seen}
use Rattle.aatry_abstractions.proofs.letting.letting_abstractions.Goals as goal

pub returns : goal.returns
returns c =
    let all = c.in_ok-found.found.items in
    let told = c.sort_by.new.self.items in
    let sorts = answers_always _ _ _ (λ f a r g k. search rules) in
    subst (λ found. IsNarrowestFirst found (map seen_letting told)) c.in_ok-found.ensures
    record {
      same = IsPermutation-map seen_letting all told c.in_ok-sort_by.ensures.permutation;
      rises = sorted-seen told (c.in_ok-sort_by.ensures.sorted code_narrower by-size sorts);
    }
