use Rattle.aa_explain_rules.proofs.StartLemmas.{missing-leads, missing-leads-not}
use Rattle.aa_explain_rules.proofs.laws.where_a_missing_rule_leads.Goals as goal

pub returns-clause-to_who_starts_it : goal.returns-clause-to_who_starts_it
returns-clause-to_who_starts_it c letters owned path rules rule flag h lacks =
    missing-leads letters owned path rules c.quoted_text_matches_itself.ensures rule h lacks flag

pub returns-clause-nowhere_without_its_exec_word : goal.returns-clause-nowhere_without_its_exec_word
returns-clause-nowhere_without_its_exec_word c letters owned path rules rule flag h lacks = missing-leads-not letters owned path rules rule h lacks flag
