use Rattle.aa_explain_changes.proofs.LawLemmas.{none-hidden, none-refused}
use Rattle.aa_explain_changes.proofs.laws.no_change_is_hidden.Goals as goal

pub returns-clause-hidden : goal.returns-clause-hidden
returns-clause-hidden c = none-hidden c.changed_rules_decide.ensures

pub returns-clause-refused : goal.returns-clause-refused
returns-clause-refused c = none-refused
