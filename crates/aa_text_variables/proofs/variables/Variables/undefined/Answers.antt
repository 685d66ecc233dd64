use Rattle.std.proofs.Common.{◌∙◌, rules}
use Rattle.aa_text_expansion.specs.Parts.{parts}
use Rattle.aa_text_variables.proofs.PartLemmas.{has_no_index, missing-undefined}
use Rattle.aa_text_variables.proofs.variables.Variables.undefined.Goals as goal

pub returns : goal.returns
returns c = c.has_missing.ensures (has_no_index c.args.self.now) (λ name answer says. search rules) ∙ missing-undefined c.args.self.now (parts c.args.text.now)
