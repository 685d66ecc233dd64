use Rattle.aa_explain_rules.proofs.LeadingLemmas.{dominating-are, first-leads, leading-rise, one-denies}
use Rattle.aa_explain_rules.proofs.laws.which_rules_lead.Goals as goal

pub returns-clause-leading_are_those_that_dominate : goal.returns-clause-leading_are_those_that_dominate
returns-clause-leading_are_those_that_dominate c = dominating-are c.where_rules_stand.ensures.they_are_all c.where_rules_stand.ensures.they_rise

pub returns-clause-none_leads_where_one_denies : goal.returns-clause-none_leads_where_one_denies
returns-clause-none_leads_where_one_denies c = one-denies

pub returns-clause-leading_rise : goal.returns-clause-leading_rise
returns-clause-leading_rise c = leading-rise c.where_rules_stand.ensures.they_are_all c.where_rules_stand.ensures.they_rise

pub returns-clause-first_leads : goal.returns-clause-first_leads
returns-clause-first_leads c = first-leads
