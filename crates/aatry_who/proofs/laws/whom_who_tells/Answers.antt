use Rattle.aatry_who.proofs.TellingLemmas.{told-by-answer}
use Rattle.aatry_who.proofs.laws.whom_who_tells.Goals as goal

pub returns : goal.returns
returns c = told-by-answer c.which_rules_parts_have.ensures.names_lead_back
