use Rattle.aa_text_variables.proofs.HeldLemmas.{empty-table}
use Rattle.aa_text_variables.proofs.variables.Variables.count_by.Goals as goal

pub returns-in-Ok-false-clause-rows : goal.returns-in-Ok-false-clause-rows
returns-in-Ok-false-clause-rows c =
    let rows = c.clear.new.self in
    empty-table c.args.self.now rows.order.keys rows.counts.items rows.numbers.items rows.lists c.clear.ensures.order c.clear.ensures.counts c.clear.ensures.numbers

pub returns-in-Err-clause-rows : goal.returns-in-Err-clause-rows
returns-in-Err-clause-rows c =
    let rows = c.clear-in-Err.new.self in
    empty-table c.args.self.now rows.order.keys rows.counts.items rows.numbers.items rows.lists c.clear-in-Err.ensures.order c.clear-in-Err.ensures.counts c.clear-in-Err.ensures.numbers
