use Rattle.aa_explain_rules.proofs.PlaceLemmas.{are-all, rise}
use Rattle.aa_explain_rules.proofs.laws.where_rules_stand.Goals as goal

pub returns-clause-they_are_all : goal.returns-clause-they_are_all
returns-clause-they_are_all c = are-all

pub returns-clause-they_rise : goal.returns-clause-they_rise
returns-clause-they_rise c = rise
