use Rattle.aa_decide_rules.proofs.AgreementLemmas.{lead-one_way}
use Rattle.aa_decide_rules.proofs.exec_laws.where_agreeing_rules_lead.Goals as goal

pub returns : goal.returns
returns c = lead-one_way c.how_overlaps_are_tested.ensures
