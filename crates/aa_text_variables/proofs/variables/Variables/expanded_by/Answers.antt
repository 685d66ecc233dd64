use Rattle.std.proofs.Common.{◌∙◌}
use Rattle.std.proofs.lemmas.Result.{IfOk-weaker}
use Rattle.aa_text_variables.proofs.HeldLemmas.{column-there, known-listed}
use Rattle.aa_text_variables.proofs.OrderLemmas.{values-settled}
use Rattle.aa_text_variables.proofs.variables.Variables.expanded_by.Goals as goal

pub expand_text-requires : goal.expand_text-requires
expand_text-requires c =
    column-there c.beside.result c.args.self.now c.args.order.now.keys c.list.new.numbers.items c.list.new.lists (rw c.as_slice.ensures.value at c.beside.ensures) c.in_ok-list.ensures.listed

pub returns : goal.returns
returns c =
    let variables = c.args.self.now in
    let order = c.args.order.now.keys in
    IfOk-weaker c.texts.result _ _
    (λ texts same.
    same
    ∙ known-listed variables order c.list.new.numbers.items c.list.new.lists c.expand_text.new.lists c.beside.result c.args.text.now c.in_ok-number.number (values-settled variables order c.requires.order c.requires.few)
    (rw c.as_slice.ensures.value at c.beside.ensures) c.in_ok-list.ensures.listed c.in_ok-list.ensures.all c.requires.known c.in_ok-number.ensures)
    c.texts.ensures
