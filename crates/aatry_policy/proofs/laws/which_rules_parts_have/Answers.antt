use Rattle.aatry_policy.proofs.LoadLemmas.{leads-back, which-rules}
use Rattle.aatry_policy.proofs.laws.which_rules_parts_have.Goals as goal

pub returns-clause-names_lead_back : goal.returns-clause-names_lead_back
returns-clause-names_lead_back c =
    leads-back c.what_changes_keep.ensures c.where_listed_names_lead.ensures
    c.how_profiles_are_named.ensures.each_name_is_as_the_grammar_says c.how_profiles_are_named.ensures.no_two_children_have_one_name

pub returns-clause-own_rules : goal.returns-clause-own_rules
returns-clause-own_rules c =
    which-rules c.what_changes_keep.ensures c.where_listed_names_lead.ensures
    c.how_profiles_are_named.ensures.each_name_is_as_the_grammar_says c.how_profiles_are_named.ensures.no_two_children_have_one_name
