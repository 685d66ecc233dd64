use Rattle.std.proofs.Common.{ap, sym, take, map, ◌∙◌}
use Rattle.aa_text_expansion.specs.Joining.{most_kept}
use Rattle.aa_text_variables.specs.Expansions.{values}
use Rattle.aa_text_variables.proofs.ExpansionLaws.{choices-plain}
use Rattle.aa_text_variables.proofs.PlainLemmas.{plain-fine}
use Rattle.aa_text_variables.proofs.variables.table.ExpansionTable.expand.Goals as goal

pub returns-then-names_nothing-clause-fine : goal.returns-then-names_nothing-clause-fine
returns-then-names_nothing-clause-fine c = plain-fine c.args.self.now c.args.text.now (sym c.names_nothing.ensures ∙ c.if-names_nothing.true)

pub returns-then-names_nothing-clause-texts : goal.returns-then-names_nothing-clause-texts
returns-then-names_nothing-clause-texts c =
    c.in_ok-alone.ensures
    ∙ ap (map (take most_kept)) (sym (choices-plain (values c.args.self.now) c.args.text.now (sym c.names_nothing.ensures ∙ c.if-names_nothing.true)))
