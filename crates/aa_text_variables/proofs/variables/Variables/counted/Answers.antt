use Rattle.std.proofs.Common.{◌≡◌, ◌<◌, length, min, arith}
use Rattle.aa_text_expansion.specs.Counting.{most_counted}
use Rattle.aa_text_variables.specs.Expansions.{expansions, values}
use Rattle.aa_text_variables.proofs.CountLemmas.{text-counted}
use Rattle.aa_text_variables.proofs.HeldLemmas.{known-fine, settled-values}
use Rattle.aa_text_variables.proofs.SomeExpansionLaws.{some-expansion}
use Rattle.aa_text_variables.proofs.variables.Variables.counted.Goals as goal

pub returns-clause-fine : goal.returns-clause-fine
returns-clause-fine c =
    let rows = c.args.rows.now in
    known-fine c.args.self.now rows.order.keys rows.counts.items rows.numbers.items rows.lists c.requires.table c.args.text.now c.requires.known c.requires.defined

pub returns-clause-count : goal.returns-clause-count
returns-clause-count c =
    let variables = c.args.self.now in
    let rows = c.args.rows.now in
    let settled = settled-values variables rows.order.keys rows.counts.items rows.numbers.items rows.lists c.requires.table in
    c.count_text.ensures.right (values variables)
    (text-counted variables rows.order.keys settled c.beside-counts.result c.args.text.now rows.counts.items (rw c.as_slice.ensures.value at c.beside-counts.ensures) c.requires.table.counted c.requires.known)

pub returns-clause-some : goal.returns-clause-some
returns-clause-some c =
    let counted : c.count_text.result ≡ min (length (expansions c.args.self.now c.args.text.now)) most_counted = returns-clause-count c in
    let some : 0 < length (expansions c.args.self.now c.args.text.now) = some-expansion c.args.self.now c.args.text.now c.lawful.ensures (returns-clause-fine c) in
    omega arith
