use Rattle.aa_explain_changes.proofs.SetLemmas.{letters-decide}
use Rattle.aa_explain_changes.proofs.laws.letters_decide_sets.Goals as goal

pub returns : goal.returns
returns c = letters-decide
