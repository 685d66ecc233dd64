use Rattle.aa_explain_start_changes.proofs.LawLemmas.{none-hidden}
use Rattle.aa_explain_start_changes.proofs.laws.no_start_change_is_hidden.Goals as goal

pub returns : goal.returns
returns c = none-hidden
