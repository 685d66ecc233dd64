use Rattle.aa_decide.proofs.laws.where_the_rules_lead.Goals as goal

pub returns : goal.returns
returns c flag owned path bytes =
    c.where_agreeing_rules_lead.ensures c.args.section.rules.now c.rules_agree.ensures.agree c.rules_agree.ensures.read flag owned path bytes
