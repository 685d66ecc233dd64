use Rattle.aa_history.proofs.MarkLawLemmas.{leads_back}
use Rattle.aa_history.proofs.laws.marks_lead_back.Goals as goal

pub returns : goal.returns
returns g c = leads_back
