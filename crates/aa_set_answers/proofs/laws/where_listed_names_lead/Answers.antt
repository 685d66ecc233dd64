use Rattle.aa_set_answers.proofs.ListedLemmas.{listed-leads}
use Rattle.aa_set_answers.proofs.laws.where_listed_names_lead.Goals as goal

pub returns : goal.returns
returns c = listed-leads
