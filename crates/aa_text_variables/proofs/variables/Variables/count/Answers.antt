use Rattle.std.proofs.Common.{◌≡◌, ◌<◌, min, length, arith}
use Rattle.aa_text_expansion.specs.Counting.{most_counted}
use Rattle.aa_text_variables.specs.Expansions.{expansions, values}
use Rattle.aa_text_variables.proofs.CountLemmas.{text-counted}
use Rattle.aa_text_variables.proofs.OrderLemmas.{values-settled}
use Rattle.aa_text_variables.proofs.variables.Variables.count.Goals as goal

pub returns-clause-count : goal.returns-clause-count
returns-clause-count c =
    let variables = c.args.self.now in
    let order = c.in_ok-order.order.keys in
    let settled = values-settled variables order c.in_ok-order.ensures.order c.in_ok-order.ensures.few in
    c.count_text.ensures.right (values variables)
    (text-counted variables order settled c.beside.result c.args.text.now c.counts.new.counts.items (rw c.as_slice.ensures.value at c.beside.ensures) c.in_ok-counts.ensures c.in_ok-order.ensures.named)

pub returns-clause-some : goal.returns-clause-some
returns-clause-some c =
    let counted : c.count_text.result ≡ min (length (expansions c.args.self.now c.args.text.now)) most_counted = returns-clause-count c in
    let some : 0 < length (expansions c.args.self.now c.args.text.now) = c.in_ok-order.ensures.some in
    omega arith
