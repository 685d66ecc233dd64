use Rattle.std.proofs.Common.{sym, subst}
use Rattle.std.specs.List.Sorted.{IsStrictlyIncreasing}
use Rattle.aa_decide_rules.specs.Verdict.{applies}
use Rattle.aa_explain_rules.specs.Laws.{AreAllWith}
use Rattle.aa_explain_rules.specs.Told.{is_near}
use Rattle.aa_explain_rules.proofs.PlaceLemmas.{are-all, rise, told-places}
use Rattle.aa_explain_rules.proofs.laws.what_is_told.Goals as goal

pub returns-clause-told_are_those_that_apply : goal.returns-clause-told_are_those_that_apply
returns-clause-told_are_those_that_apply c flag request rules =
    subst (AreAllWith (applies request) rules) (sym (told-places flag request 0 rules)) (are-all (applies request) rules)

pub returns-clause-told_rise : goal.returns-clause-told_rise
returns-clause-told_rise c flag request rules = subst IsStrictlyIncreasing (sym (told-places flag request 0 rules)) (rise (applies request) rules)

pub returns-clause-near_are_those_that_are : goal.returns-clause-near_are_those_that_are
returns-clause-near_are_those_that_are c request rules = are-all (is_near request) rules

pub returns-clause-near_rise : goal.returns-clause-near_rise
returns-clause-near_rise c request rules = rise (is_near request) rules
