use Rattle.std.proofs.Common.{◌∙◌, ap, sym}
use Rattle.std.specs.List.{list_any}
use Rattle.aa_text_variables.specs.Variables.{names_undefined}
use Rattle.aa_text_variables.proofs.TestLemmas.{any-behind, any-left}
use Rattle.aa_text_variables.proofs.variables.Variables.undefined_at.Goals as goal

pub returns-then-are_undefined : goal.returns-then-are_undefined
returns-then-are_undefined c =
    let test = names_undefined c.args.self.now in
    c.if-are_undefined.true ∙ sym (any-left test c.words.result.0.now c.words.result.1.now (sym c.are_undefined.ensures ∙ c.if-are_undefined.true)) ∙ ap (list_any test) c.words.ensures

pub returns-else-are_undefined : goal.returns-else-are_undefined
returns-else-are_undefined c =
    let test = names_undefined c.args.self.now in
    c.are_undefined-else-are_undefined.ensures ∙ any-behind test c.words.result.0.now c.words.result.1.now _ (sym c.are_undefined.ensures ∙ c.if-are_undefined.false) c.words.ensures
