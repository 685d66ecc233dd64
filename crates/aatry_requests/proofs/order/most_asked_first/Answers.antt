use Rattle.std.proofs.Common.{rules, subst}
use Rattle.std.proofs.lemmas.List.Sorted.{answers_always}
use Rattle.aatry_requests.specs.Order.{IsMostAskedFirst}
use Rattle.aatry_requests.specs.SeenTallies.{seen_all, seen_tally}
use Rattle.aatry_requests.proofs.OrderLemmas.{came_more, came_more-order, most-asked}
use Rattle.aatry_requests.proofs.order.most_asked_first.Goals as goal

pub returns : goal.returns
returns c =
    let told = c.sort_by.new.self.items in
    let sorts = answers_always _ _ _ (λ f a r g k. search rules) in
    subst (λ tallies. IsMostAskedFirst tallies (seen_all told)) c.in_ok-told.ensures
    (most-asked (λ tally. seen_tally tally.now) c.in_ok-told.told.items told c.in_ok-sort_by.ensures.permutation
    (c.in_ok-sort_by.ensures.sorted (came_more (λ tally. seen_tally tally.now)) (came_more-order (λ tally. seen_tally tally.now)) sorts)
    (c.in_ok-sort_by.ensures.stable (came_more (λ tally. seen_tally tally.now)) (came_more-order (λ tally. seen_tally tally.now)) sorts))
