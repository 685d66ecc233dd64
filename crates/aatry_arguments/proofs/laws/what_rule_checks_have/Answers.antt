use Rattle.std.proofs.Common.{◌∙◌, ap, false, refl, true}
use Rattle.aa_start.specs.Options.{asked_as, asked_then}
use Rattle.aatry_arguments.specs.Arguments.{ForRules}
use Rattle.aatry_arguments.specs.CheckWords.{asked_check, check_with}
use Rattle.aatry_arguments.specs.Flags.{without_flag}
use Rattle.aatry_arguments.specs.PathsWords.{limited_by}
use Rattle.aatry_arguments.specs.RulesWords.{asked_by_limit, asked_rules, included_flag, redundant_flag, rules_of}
use Rattle.aatry_arguments.proofs.AskedLemmas.{asked_of_check}
use Rattle.aatry_arguments.proofs.FlagLemmas.{none_given}
use Rattle.aatry_arguments.proofs.laws.what_rule_checks_have.Goals as goal

pub returns-clause-alone : goal.returns-clause-alone
unfolding asked_rules
returns-clause-alone c = refl

pub returns-clause-nowhere : goal.returns-clause-nowhere
returns-clause-nowhere c words none = rw none refl

pub returns-clause-anywhere : goal.returns-clause-anywhere
returns-clause-anywhere c words given = rw given refl

pub returns-clause-files : goal.returns-clause-files
unfolding asked_rules
returns-clause-files c words base names none no_included without asks =
    ap (λ others. asked_as ForRules (asked_rules others)) (none_given redundant_flag words none)
    ∙ ap (λ read. asked_as ForRules (asked_by_limit (limited_by read))) without
    ∙ ap (λ included. asked_as ForRules (asked_then (rules_of included 262144) (asked_check (without_flag included_flag words)))) no_included
    ∙ ap (λ others. asked_as ForRules (asked_then (rules_of false 262144) (asked_check others))) (none_given included_flag words no_included)
    ∙ asked_of_check ForRules (rules_of false 262144) words (check_with base names) asks

pub returns-clause-included : goal.returns-clause-included
unfolding asked_rules
returns-clause-included c words base names none given without asks =
    ap (λ others. asked_as ForRules (asked_rules others)) (none_given redundant_flag words none)
    ∙ ap (λ read. asked_as ForRules (asked_by_limit (limited_by read))) without
    ∙ ap (λ included. asked_as ForRules (asked_then (rules_of included 262144) (asked_check (without_flag included_flag words)))) given
    ∙ ap (λ asked. asked_as ForRules (asked_then (rules_of true 262144) asked)) asks
