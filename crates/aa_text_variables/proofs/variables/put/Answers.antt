use Rattle.std.proofs.Common.{sym, ap, ◌∙◌}
use Rattle.aa_text_variables.specs.code.VariableIndexes.{index_of}
use Rattle.aa_text_variables.proofs.VariableLemmas.{placed-push}
use Rattle.aa_text_variables.proofs.variables.put.Goals as goal

pub returns-clause-ok : goal.returns-clause-ok
returns-clause-ok c = λ variables more placed own none at.
    placed-push variables c.args.places.now.entries c.insert.new.self.entries c.in_ok-key.key c.args.place more placed (own ∙ sym c.in_ok-key.ensures.items) (ap (index_of variables) own ∙ none) at
    c.in_ok-insert.ensures.entries
