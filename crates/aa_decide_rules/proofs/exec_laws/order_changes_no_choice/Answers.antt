use Rattle.aa_decide_rules.proofs.OrderLemmas.{same-choice}
use Rattle.aa_decide_rules.proofs.exec_laws.order_changes_no_choice.Goals as goal

pub returns : goal.returns
returns c = λ flag owned path rules others same agrees read bytes.
    same-choice flag owned path rules others same (c.where_agreeing_rules_lead.ensures rules agrees read flag owned path bytes)
