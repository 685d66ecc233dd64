use Rattle.aa_explain_rules.proofs.MissingLemmas.{lets, of-capability, of-path, of-type}
use Rattle.aa_explain_rules.proofs.laws.what_a_missing_rule_lets.Goals as goal

pub returns-clause-it_lets_the_request : goal.returns-clause-it_lets_the_request
returns-clause-it_lets_the_request c = lets c.quoted_text_matches_itself.ensures

pub returns-clause-of_each_path : goal.returns-clause-of_each_path
returns-clause-of_each_path c = of-path c.quoted_text_reads_as_itself.ensures

pub returns-clause-of_each_capability : goal.returns-clause-of_each_capability
returns-clause-of_each_capability c = of-capability

pub returns-clause-of_each_type : goal.returns-clause-of_each_type
returns-clause-of_each_type c = of-type
