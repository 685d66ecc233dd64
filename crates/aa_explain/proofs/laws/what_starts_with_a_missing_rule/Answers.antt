use Rattle.std.proofs.Common.{◌∙◌, ap}
use Rattle.aa_decide_rules.specs.Choices.{choice}
use Rattle.aa_explain.proofs.StartLemmas.{lets-start, not-started, starts-under}
use Rattle.aa_explain.proofs.laws.what_starts_with_a_missing_rule.Goals as goal

pub returns-clause-it_is_let : goal.returns-clause-it_is_let
returns-clause-it_is_let c letters owned path rules rule entries who h lacks are =
    lets-start entries who owned path
    (λ flag. let (logged, leads) = c.where_a_missing_rule_leads.ensures.to_who_starts_it letters owned path rules rule flag h lacks in (logged, ap (choice flag owned path) are ∙ leads))

pub returns-clause-it_inherits : goal.returns-clause-it_inherits
returns-clause-it_inherits c letters owned path rules rule entries who h lacks are =
    starts-under entries who owned path
    (λ flag. let (logged, leads) = c.where_a_missing_rule_leads.ensures.to_who_starts_it letters owned path rules rule flag h lacks in (logged, ap (choice flag owned path) are ∙ leads))

pub returns-clause-not_without_its_exec_word : goal.returns-clause-not_without_its_exec_word
returns-clause-not_without_its_exec_word c letters owned path rules rule entries who h lacks are =
    not-started entries who owned path
    (λ flag. ap (choice flag owned path) are ∙ c.where_a_missing_rule_leads.ensures.nowhere_without_its_exec_word letters owned path rules rule flag h lacks)
