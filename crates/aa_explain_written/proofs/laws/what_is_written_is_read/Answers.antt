use Rattle.aa_explain_written.proofs.DecidingLemmas.{verdict-same}
use Rattle.aa_explain_written.proofs.MissingLemmas.{items-same, quotes-stay}
use Rattle.aa_explain_written.proofs.WrittenLemmas.{rule-back}
use Rattle.aa_explain_written.proofs.laws.what_is_written_is_read.Goals as goal

pub returns-clause-rules_are_read_back : goal.returns-clause-rules_are_read_back
returns-clause-rules_are_read_back c = rule-back

pub returns-clause-patterns_read_the_same : goal.returns-clause-patterns_read_the_same
returns-clause-patterns_read_the_same c = items-same c.quoted_text_reads_as_itself.ensures

pub returns-clause-patterns_stay_where_they_can : goal.returns-clause-patterns_stay_where_they_can
returns-clause-patterns_stay_where_they_can c = quotes-stay

pub returns-clause-verdicts_stay : goal.returns-clause-verdicts_stay
returns-clause-verdicts_stay c = verdict-same c.quoted_text_reads_as_itself.ensures
