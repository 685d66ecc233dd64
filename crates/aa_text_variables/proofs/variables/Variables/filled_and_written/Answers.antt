use Rattle.aa_text_variables.proofs.WalkLemmas.{settled-few}
use Rattle.aa_text_variables.proofs.variables.Variables.filled_and_written.Goals as goal

pub list-requires-clause-few : goal.list-requires-clause-few
list-requires-clause-few c = settled-few c.args.self.now c.args.rows.now.order.keys c.requires.settled
