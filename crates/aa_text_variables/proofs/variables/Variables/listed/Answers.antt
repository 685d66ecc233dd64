use Rattle.std.proofs.lemmas.Result.{IfOk-weaker}
use Rattle.aa_text_variables.proofs.HeldLemmas.{column-there, held-fine, held-listed, table-kept}
use Rattle.aa_text_variables.proofs.variables.Variables.listed.Goals as goal

pub expand_text-requires : goal.expand_text-requires
expand_text-requires c =
    let rows = c.args.rows.now in
    column-there c.beside-held.result c.args.self.now rows.order.keys rows.numbers.items rows.lists (rw c.as_slice.ensures.value at c.beside-held.ensures) c.requires.rows.listed

pub returns : goal.returns
returns c =
    let rows = c.args.rows.now in
    IfOk-weaker c.expand_text.result _ _
    (λ number expands. record {
      table = table-kept c.args.self.now rows.order.keys rows.counts.items rows.numbers.items rows.lists c.requires.rows c.expand_text.new.lists expands.kept;
      fine = held-fine c.args.self.now rows.order.keys rows.counts.items rows.numbers.items rows.lists c.requires.rows c.args.text.now c.requires.listed;
      value = held-listed c.args.self.now rows.order.keys rows.counts.items rows.numbers.items rows.lists c.expand_text.new.lists c.requires.rows c.beside-held.result c.args.text.now number
          (rw c.as_slice.ensures.value at c.beside-held.ensures) c.requires.listed expands;
    })
    c.expand_text.ensures
