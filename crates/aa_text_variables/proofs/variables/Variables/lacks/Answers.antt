use Rattle.std.proofs.Common.{ap, ◌∙◌, rules}
use Rattle.std.specs.Prelude.{is_none}
use Rattle.aa_text_variables.specs.code.Columns.{numbers_in}
use Rattle.aa_text_variables.specs.code.HeldValues.{is_text_lacking}
use Rattle.aa_text_variables.proofs.HeldLemmas.{numbers-beside}
use Rattle.aa_text_variables.proofs.variables.Variables.lacks.Goals as goal

pub returns : goal.returns
returns c =
    c.has_missing.ensures (λ name. is_none (numbers_in c.beside-held.result name)) (λ name answer says. search rules)
    ∙ ap (λ numbers. is_text_lacking numbers c.args.text.now)
    (numbers-beside c.beside-held.result c.args.self.now c.args.rows.now.order.keys c.args.rows.now.numbers.items (rw c.as_slice.ensures.value at c.beside-held.ensures))
