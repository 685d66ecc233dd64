use Rattle.aa_explain_written.proofs.MissingLemmas.{missing-of-capability, missing-of-path, missing-of-type, missing-one}
use Rattle.aa_explain_written.proofs.laws.which_missing_rules_are_written.Goals as goal

pub returns-clause-each_is_on_one_path : goal.returns-clause-each_is_on_one_path
returns-clause-each_is_on_one_path c = missing-one

pub returns-clause-of_each_path : goal.returns-clause-of_each_path
returns-clause-of_each_path c = missing-of-path c.quoted_text_reads_as_itself.ensures

pub returns-clause-of_each_capability : goal.returns-clause-of_each_capability
returns-clause-of_each_capability c = missing-of-capability

pub returns-clause-of_each_type : goal.returns-clause-of_each_type
returns-clause-of_each_type c = missing-of-type
