use Rattle.std.proofs.Common.{map, rules, subst}
use Rattle.std.proofs.lemmas.List.Sorted.{IsPermutation-map, answers_always}
use Rattle.aatry_log_rules.specs.SeenWanted.{seen_wanted}
use Rattle.aatry_log_rules.specs.Wanted.{IsByWho}
use Rattle.aatry_log_rules.proofs.WantedLemmas.{by-name, code_before, sorted-seen}
use Rattle.aatry_log_rules.proofs.wanted.WantedRules.by_who.Goals as goal

pub returns : goal.returns
returns c =
    let all = c.in_ok-all.all.items in
    let told = c.sort_by.new.self.items in
    let sorts = answers_always _ _ _ (λ f a r g k. search rules) in
    subst (λ wanted. IsByWho wanted (map seen_wanted told)) c.in_ok-all.ensures
    record {
      same = IsPermutation-map seen_wanted all told c.in_ok-sort_by.ensures.permutation;
      rises = sorted-seen told (c.in_ok-sort_by.ensures.sorted code_before by-name sorts);
    }
