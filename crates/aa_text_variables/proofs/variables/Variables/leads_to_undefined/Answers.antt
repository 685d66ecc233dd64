use Rattle.std.proofs.Common.{sym}
use Rattle.aa_text_variables.proofs.ReachedLemmas.{text-refused}
use Rattle.aa_text_variables.proofs.variables.Variables.leads_to_undefined.Goals as goal

pub returns-then-undefined : goal.returns-then-undefined
returns-then-undefined c = text-refused c.args.self.now c.args.text.now (sym c.if-undefined.ensures)
