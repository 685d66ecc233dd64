use Rattle.std.proofs.Common.{ap, ◌∙◌}
use Rattle.aa_text_variables.specs.code.VariableIndexes.{index_of}
use Rattle.aa_text_variables.proofs.IndexLemmas.{index-within}
use Rattle.aa_text_variables.proofs.variables.Variables.index_of.Goals as goal

pub returns-clause-value : goal.returns-clause-value
returns-clause-value c =
    let name = c.args.name.now in
    c.copied.ensures ∙ c.get.ensures.value ∙ c.self.invariant.placed name ∙ ap (λ v. index_of v name) c.self.view_is

pub returns-clause-within : goal.returns-clause-within
returns-clause-within c = index-within c.args.self.now c.args.name.now c.copied.result (returns-clause-value c)
