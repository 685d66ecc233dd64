use Rattle.std.proofs.Common.{◌∙◌, ap, sym}
use Rattle.aa_text_variables.specs.Variables.{are_variables}
use Rattle.aa_text_variables.proofs.variables.Variables.lawful.Goals as goal

pub returns : goal.returns
returns c = ap are_variables (sym c.self.view_is) ∙ c.self.invariant.variables
