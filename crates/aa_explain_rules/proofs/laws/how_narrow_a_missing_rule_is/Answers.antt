use Rattle.aa_explain_rules.proofs.NarrowLemmas.{covers-all, narrower, not-allowed-now}
use Rattle.aa_explain_rules.proofs.laws.how_narrow_a_missing_rule_is.Goals as goal

pub returns-clause-not_allowed_without_it : goal.returns-clause-not_allowed_without_it
returns-clause-not_allowed_without_it c = not-allowed-now

pub returns-clause-only_what_covers_all_lets : goal.returns-clause-only_what_covers_all_lets
returns-clause-only_what_covers_all_lets c = covers-all

pub returns-clause-no_letter_can_go : goal.returns-clause-no_letter_can_go
returns-clause-no_letter_can_go c = narrower
