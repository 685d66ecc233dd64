use Rattle.std.proofs.Common.{length, min, ap, sym, ◌∙◌}
use Rattle.aa_text_variables.specs.Expansions.{values}
use Rattle.aa_text_expansion.specs.Counting.{most_counted}
use Rattle.aa_text_variables.proofs.ExpansionLaws.{choices-plain}
use Rattle.aa_text_variables.proofs.PlainLemmas.{plain-fine}
use Rattle.aa_text_variables.proofs.variables.table.ExpansionTable.count.Goals as goal

pub returns-then-names_nothing-clause-fine : goal.returns-then-names_nothing-clause-fine
returns-then-names_nothing-clause-fine c = plain-fine c.args.self.now c.args.text.now (sym c.names_nothing.ensures ∙ c.if-names_nothing.true)

pub returns-then-names_nothing-clause-count : goal.returns-then-names_nothing-clause-count
returns-then-names_nothing-clause-count c =
    ap (λ all. min (length all) most_counted)
    (sym (choices-plain (values c.args.self.now) c.args.text.now (sym c.names_nothing.ensures ∙ c.if-names_nothing.true)))
