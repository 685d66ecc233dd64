use Rattle.aa_profile_data.proofs.SameLemmas.{equal-rule, rule-equal}
use Rattle.aa_profile_data.proofs.laws.when_rules_are_same.Goals as goal

pub returns : goal.returns
returns c = λ one other. (rule-equal one other, equal-rule one other)
