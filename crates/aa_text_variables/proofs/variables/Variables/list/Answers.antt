use Rattle.std.proofs.Common.{◌≡◌, ◌<◌, ◌≤◌, ◌∷◌, [], ap, arith, length, length-append, sym, ◌∙◌}
use Rattle.std.proofs.lemmas.Option.{slice_get_within}
use Rattle.aa_text_variables.proofs.HeldLemmas.{column-there, row-listed}
use Rattle.aa_text_variables.proofs.ListLemmas.{past-none}
use Rattle.aa_text_variables.proofs.OrderLemmas.{values-settled}
use Rattle.aa_text_variables.proofs.variables.Variables.list.Goals as goal

pub listed_at-requires : goal.listed_at-requires
listed_at-requires c =
    column-there c.beside.result c.args.self.now c.args.order.now.keys c.loop-index.numbers.items c.loop-index.lists (rw c.as_slice.ensures.value at c.beside.ensures) c.loop-index.invariant.listed

pub loop-index-smaller : goal.loop-index-smaller
loop-index-smaller c =
    let size : c.len.result ≡ length c.loop-index.numbers.items = omega (arith, c.loop-index.numbers.ok) in
    let within : length c.loop-index.numbers.items < length c.args.order.now.keys = slice_get_within c.args.order.now.keys (length c.loop-index.numbers.items) c.in-Some.index (sym (rw size at c.in-Some.ensures.value)) in
    let longer = ap length c.in_ok-push.ensures.items ∙ length-append c.loop-index.numbers.items (c.in_ok-number.number ∷ []) in
    omega arith

pub loop-index-preserved : goal.loop-index-preserved
loop-index-preserved c =
    let size : c.len.result ≡ length c.loop-index.numbers.items = omega (arith, c.loop-index.numbers.ok) in
    let variables = c.args.self.now in
    let order = c.args.order.now.keys in
    let within : length c.loop-index.numbers.items < length order = slice_get_within order (length c.loop-index.numbers.items) c.in-Some.index (sym (rw size at c.in-Some.ensures.value)) in
    let longer = ap length c.in_ok-push.ensures.items ∙ length-append c.loop-index.numbers.items (c.in_ok-number.number ∷ []) in
    record {
      listed = row-listed variables order c.loop-index.numbers.items c.push.new.self.items c.loop-index.lists c.listed_at.new.lists c.beside.result c.in-Some.index c.in_ok-number.number c.requires.order
          (values-settled variables order c.requires.order c.requires.few) (rw c.as_slice.ensures.value at c.beside.ensures) c.loop-index.invariant.listed (rw size at c.in-Some.ensures.value)
          c.in_ok-number.ensures c.in_ok-push.ensures.items;
      fewer = omega arith;
    }

pub returns-clause-all : goal.returns-clause-all
returns-clause-all c =
    let size : c.len.result ≡ length c.loop-index.numbers.items = omega (arith, c.loop-index.numbers.ok) in
    let past : length c.args.order.now.keys ≤ length c.loop-index.numbers.items = past-none c.args.order.now.keys (length c.loop-index.numbers.items) (rw size at c.in_default.ensures.value) in
    let fewer = c.loop-index.invariant.fewer in
    omega arith
