use Rattle.std.proofs.Common.{◌≡◌, ◌<◌, ◌≤◌, ◌∙◌, ◌∷◌, [], ap, length, length-append, map, arith, sym}
use Rattle.std.proofs.lemmas.List.{take_all}
use Rattle.std.proofs.lemmas.Option.{slice_get_within}
use Rattle.aa_text_variables.specs.code.ExpansionTables.{count_at}
use Rattle.aa_text_variables.proofs.CountLemmas.{counts-more}
use Rattle.aa_text_variables.proofs.ListLemmas.{past-none}
use Rattle.aa_text_variables.proofs.OrderLemmas.{values-settled}
use Rattle.aa_text_variables.proofs.variables.Variables.counts.Goals as goal

pub loop-index-smaller : goal.loop-index-smaller
loop-index-smaller c =
    let size : c.len.result ≡ length c.loop-index.counts.items = omega (arith, c.loop-index.counts.ok) in
    let within : length c.loop-index.counts.items < length c.args.order.now.keys = slice_get_within c.args.order.now.keys (length c.loop-index.counts.items) c.in-Some.index (sym (rw size at c.in-Some.ensures.value)) in
    let longer = ap length c.in_ok-push.ensures.items ∙ length-append c.loop-index.counts.items (c.counted_at-count.result ∷ []) in
    omega arith

pub loop-index-preserved : goal.loop-index-preserved
loop-index-preserved c =
    let size : c.len.result ≡ length c.loop-index.counts.items = omega (arith, c.loop-index.counts.ok) in
    let variables = c.args.self.now in
    let order = c.args.order.now.keys in
    counts-more variables order (values-settled variables order c.requires.order c.requires.few) c.requires.order c.beside.result c.in-Some.index c.loop-index.counts.items c.push.new.self.items c.counted_at-count.result
    (rw c.as_slice.ensures.value at c.beside.ensures) (sym (rw size at c.in-Some.ensures.value)) c.loop-index.invariant c.counted_at-count.ensures c.in_ok-push.ensures.items

pub returns : goal.returns
returns c =
    let size : c.len.result ≡ length c.loop-index.counts.items = omega (arith, c.loop-index.counts.ok) in
    let past : length c.args.order.now.keys ≤ length c.loop-index.counts.items = past-none c.args.order.now.keys (length c.loop-index.counts.items) (rw size at c.in_default.ensures.value) in
    c.loop-index.invariant ∙ ap (map (count_at c.args.self.now)) (take_all (length c.loop-index.counts.items) c.args.order.now.keys past)
