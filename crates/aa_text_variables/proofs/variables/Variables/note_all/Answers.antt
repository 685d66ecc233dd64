use Rattle.std.proofs.Common.{rules}
use Rattle.std.proofs.lemmas.Result.{on_ok_weaker}
use Rattle.aa_text_variables.specs.code.VariableIndexes.{index_of}
use Rattle.aa_text_variables.proofs.variables.Variables.note_all.Goals as goal

pub returns : goal.returns
returns c = on_ok_weaker c.gather_numbers_within.result (λ gathers. gathers (index_of c.args.self.now) (λ name answer says. search rules)) c.gather_numbers_within.ensures
